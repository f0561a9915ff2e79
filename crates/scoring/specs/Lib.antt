pub mod Doublings
pub mod Laws
pub mod Scores
