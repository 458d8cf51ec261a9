pub mod Seen
pub mod Locals
pub mod Resolved
pub mod Summaries
pub mod Lookups
pub mod Collected
