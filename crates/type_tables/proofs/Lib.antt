pub mod Tabled
pub mod Noted
pub mod Calls
