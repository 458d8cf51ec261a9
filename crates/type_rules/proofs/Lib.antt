pub mod Least
pub mod Ordered
pub mod Alike
