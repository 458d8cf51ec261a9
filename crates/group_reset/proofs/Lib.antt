pub mod Choosing
pub mod Concluding
pub mod Coordinating
pub mod Answering
