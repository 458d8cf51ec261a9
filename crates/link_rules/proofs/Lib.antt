pub mod Truth
pub mod Elements
pub mod Ways
pub mod Breaches
pub mod Seeing
pub mod Telling
pub mod Declaring
pub mod OfText
