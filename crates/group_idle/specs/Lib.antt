pub mod Net
pub mod Idle
pub mod Worst
