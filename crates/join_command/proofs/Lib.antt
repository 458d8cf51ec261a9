pub mod Joining
pub mod Wiring
