pub mod Excerpts
pub mod Texts
pub mod Notes
