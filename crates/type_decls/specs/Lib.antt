pub mod Bodies
pub mod Contexts
pub mod Fields
pub mod Specifications
pub mod Symbols
pub mod Judged
