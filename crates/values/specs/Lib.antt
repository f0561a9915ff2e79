pub mod Cursors
pub mod Deals
pub mod Letters
pub mod Numbers
