pub mod Program
pub mod Accepted
