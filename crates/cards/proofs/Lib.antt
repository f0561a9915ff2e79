pub mod Bits
pub mod Counts
pub mod Turns
pub mod Ways
