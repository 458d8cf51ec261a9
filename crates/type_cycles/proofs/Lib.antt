pub mod Members
pub mod Ways
pub mod Ranked
pub mod Marked
