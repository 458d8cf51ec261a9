pub mod Hearing
pub mod Ordering
pub mod Receiving
pub mod Resetting
pub mod Kinds
