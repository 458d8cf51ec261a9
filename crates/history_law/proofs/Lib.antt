pub mod Entries
pub mod Running
pub mod Fits
pub mod Carrying
