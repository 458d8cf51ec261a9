pub mod Asked
pub mod Driven
pub mod Left
