pub mod History
pub mod Lawful
