pub mod Boards
pub mod Calls
pub mod Chairs
pub mod Codes
pub mod Deals
pub mod Hands
pub mod Pack
pub mod Suits
