pub mod Bits
pub mod Holdings
