pub mod Uses
pub mod Routines
pub mod Estimates
pub mod Examples
pub mod Sites
