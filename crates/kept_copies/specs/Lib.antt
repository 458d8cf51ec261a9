pub mod Copies
pub mod Worked
