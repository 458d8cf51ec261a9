pub mod Loops
pub mod Sites
pub mod Tables
