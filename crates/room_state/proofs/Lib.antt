pub mod Stepped
pub mod TakingIn
pub mod Choosing
pub mod Counting
pub mod Ordering
pub mod Taking
pub mod Holding
