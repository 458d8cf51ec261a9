pub mod Window
pub mod Slots
