pub mod Below
pub mod Phrases
pub mod Bodies
pub mod Programs
pub mod Guards
