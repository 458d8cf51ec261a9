pub mod CodeSites
pub mod Jumps
pub mod Lending
