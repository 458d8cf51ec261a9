pub mod Fronts
pub mod Marks
pub mod Places
pub mod Printing
