pub mod Parts
pub mod Sending
pub mod Limits
pub mod Growing
pub mod Earlier
pub mod Replies
pub mod Spent
