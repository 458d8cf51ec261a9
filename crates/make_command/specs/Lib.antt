pub mod Losses
pub mod Summary
pub mod Runs
