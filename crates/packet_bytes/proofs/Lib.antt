pub mod Chains
pub mod Pieces
pub mod Readers
pub mod MessageLaws
pub mod PacketLaws
pub mod Lengths
pub mod Found
