pub mod Searches
pub mod Tags
pub mod Views
