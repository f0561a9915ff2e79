pub mod Notation
pub mod Laws
