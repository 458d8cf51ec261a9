pub mod Flow
pub mod Enough
pub mod Worked
pub mod Wrong
