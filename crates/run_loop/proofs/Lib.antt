pub mod Telling
pub mod Using
pub mod Due
pub mod Driving
pub mod Stepping
pub mod Choosing
pub mod Ending
