pub mod Chains
pub mod Tables
pub mod Pieces
pub mod ActsAgain
pub mod LineLaws
pub mod Histories
pub mod Ascii
pub mod Grown
