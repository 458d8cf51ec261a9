pub mod Layers
pub mod Listed
pub mod Tables
