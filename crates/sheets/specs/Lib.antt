pub mod Comparisons
pub mod Results
pub mod Rows
pub mod Sheets
