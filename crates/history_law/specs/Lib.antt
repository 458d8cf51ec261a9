pub mod Runs
pub mod Fitness
pub mod Alike
