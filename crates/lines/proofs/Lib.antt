pub mod EndMarks
pub mod FirstLines
