pub mod Auctions
pub mod Outcomes
pub mod Laws
