pub mod Counted
pub mod Passed
