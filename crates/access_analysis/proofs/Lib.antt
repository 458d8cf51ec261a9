pub mod Fields
pub mod Changing
pub mod Specified
pub mod FirstHere
pub mod Listed
