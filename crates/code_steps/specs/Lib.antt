pub mod Pops
pub mod Moves
pub mod Bodies
pub mod Passing
