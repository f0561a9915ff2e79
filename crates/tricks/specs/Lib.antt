pub mod Tricks
pub mod Cards
pub mod Laws
