pub mod Faults
pub mod Stretches
pub mod Counting
pub mod Worked
