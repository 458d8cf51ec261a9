pub mod Lines
pub mod Standings
pub mod Said
pub mod Laws
pub mod Kept
pub mod Rows
pub mod Headline
pub mod Made
