pub mod Agreeing
pub mod Performing
pub mod Playing
pub mod Taking
pub mod Judging
pub mod Opening
pub mod Telling
