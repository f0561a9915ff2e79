pub mod Steps
pub mod Lasts
pub mod Lengths
