pub mod Arms
pub mod Sequences
pub mod Transfers
pub mod Joined
pub mod Fusing
pub mod Finishing
pub mod Numbering
pub mod Rounds
