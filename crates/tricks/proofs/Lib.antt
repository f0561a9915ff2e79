pub mod Winners
pub mod Lowest
pub mod Rounds
