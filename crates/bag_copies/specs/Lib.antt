pub mod Fits
pub mod Asks
