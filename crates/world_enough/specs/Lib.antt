pub mod Faultless
pub mod Paid
pub mod Bound
pub mod Tie
pub mod OneOwner
pub mod Numbered
