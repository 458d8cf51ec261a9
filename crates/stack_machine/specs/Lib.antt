pub mod Ops
pub mod Bodies
pub mod FastPath
pub mod Covering
pub mod Running
pub mod Fused
