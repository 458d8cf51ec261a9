pub mod Sound
pub mod Spelling
pub mod Reading
pub mod Seeking
pub mod Following
pub mod Laws
pub mod Examples
