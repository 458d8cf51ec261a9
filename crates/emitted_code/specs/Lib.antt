pub mod Views
pub mod Appends
