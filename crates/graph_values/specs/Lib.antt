pub mod Graphs
pub mod SoundNodes
pub mod Calls
pub mod Places
pub mod Rows
