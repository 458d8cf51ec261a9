pub mod Lists
pub mod Words
pub mod AreTables
pub mod Lawful
pub mod Lines
pub mod Checked
