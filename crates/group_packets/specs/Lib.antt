pub mod Packet
pub mod Sound
