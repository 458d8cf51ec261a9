pub mod Lines
pub mod Sources
pub mod Stopped
pub mod Loaded
pub mod Replays
