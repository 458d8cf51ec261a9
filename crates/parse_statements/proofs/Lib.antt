pub mod Decisions
pub mod ArmLemmas
