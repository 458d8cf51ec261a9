pub mod Integers
pub mod Texts
pub mod Sizes
pub mod Elements
pub mod Spots
pub mod Rows
