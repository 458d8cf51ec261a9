pub mod Gives
pub mod Chains
