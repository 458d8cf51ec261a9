pub mod Causes
pub mod Failing
pub mod Files
pub mod Noted
pub mod Reading
pub mod Sinks
pub mod Writer
