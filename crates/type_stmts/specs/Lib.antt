pub mod Bodies
pub mod Forked
