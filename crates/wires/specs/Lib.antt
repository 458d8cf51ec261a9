pub mod Wired
pub mod Counts
pub mod Index
pub mod Due
pub mod Progress
