pub mod Moments
pub mod Handing
pub mod Conditions
pub mod Starts
pub mod Bursting
pub mod Entries
pub mod Laws
