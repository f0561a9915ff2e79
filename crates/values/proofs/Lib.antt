pub mod Digits
pub mod Layouts
pub mod Parts
