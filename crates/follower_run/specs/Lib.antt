pub mod Given
pub mod Answers
pub mod Posts
pub mod Kept
pub mod Going
pub mod Travelled
pub mod Done
