pub mod Loops
pub mod LaidOut
pub mod Pieces
pub mod Syntax
pub mod Texts
pub mod Accepted
