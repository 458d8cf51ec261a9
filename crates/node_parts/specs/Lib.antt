pub mod Runs
pub mod Names
pub mod Named
pub mod Shown
