pub mod Matching
pub mod Bodies
pub mod Blocks
pub mod Objects
pub mod Codes
pub mod Sites
pub mod Named
