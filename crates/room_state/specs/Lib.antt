pub mod Driven
pub mod Stated
pub mod Held
