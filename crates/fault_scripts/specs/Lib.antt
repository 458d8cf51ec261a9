pub mod Words
pub mod Says
pub mod Reading
pub mod Script
pub mod Examples
