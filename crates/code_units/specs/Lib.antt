pub mod Endings
pub mod Plain
pub mod Guarded
pub mod Makes
