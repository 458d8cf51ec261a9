pub mod Once
pub mod Compiled
pub mod Counted
pub mod Topped
