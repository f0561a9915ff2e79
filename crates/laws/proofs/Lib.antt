pub mod Places
pub mod Deals
pub mod Boards
