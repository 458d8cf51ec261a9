pub mod Afterward
pub mod Telling
pub mod Reached
pub mod Taking
pub mod Pieces
pub mod Entries
pub mod Packets
pub mod Worked
