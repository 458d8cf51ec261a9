pub mod Books
pub mod Calls
