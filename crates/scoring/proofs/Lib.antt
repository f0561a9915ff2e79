pub mod Computed
pub mod Points
