pub mod Choice
pub mod Concludes
pub mod Calls
