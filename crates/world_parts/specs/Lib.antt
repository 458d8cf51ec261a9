pub mod Seen
pub mod Choosing
pub mod Recorded
pub mod Standing
pub mod Rows
pub mod Opening
