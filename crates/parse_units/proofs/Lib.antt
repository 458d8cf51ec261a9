pub mod Decisions
pub mod Texts
pub mod Refusals
pub mod RoundTrips
