pub mod Cases
pub mod Numerals
pub mod Simple
