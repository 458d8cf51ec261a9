pub mod Stepping
pub mod Drafting
pub mod Closing
pub mod Growing
pub mod Recalling
pub mod Bursting
