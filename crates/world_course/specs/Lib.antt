pub mod Chain
pub mod Processes
pub mod Corresponds
pub mod Works
pub mod Group
pub mod Errands
pub mod Gives
pub mod Law
