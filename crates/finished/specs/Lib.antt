pub mod Finished
pub mod Histories
pub mod Outcomes
