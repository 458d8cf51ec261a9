pub mod Resilience
