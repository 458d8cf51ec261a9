pub mod Firsts
pub mod Widened
pub mod Passes
pub mod Cyclic
pub mod Ranked
