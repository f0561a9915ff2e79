pub mod Limits
pub mod Scored
