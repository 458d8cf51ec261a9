pub mod Verdicts
pub mod Outcomes
pub mod Players
