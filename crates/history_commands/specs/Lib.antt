pub mod Replays
pub mod ReadBack
