pub mod Asked
pub mod Wired
pub mod Joined
