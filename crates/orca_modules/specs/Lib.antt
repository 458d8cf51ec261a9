pub mod Seen
pub mod Judged
pub mod Leading
pub mod Ranks
