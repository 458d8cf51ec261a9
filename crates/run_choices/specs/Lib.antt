pub mod Chosen
pub mod Examples
