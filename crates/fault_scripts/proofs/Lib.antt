pub mod Rows
pub mod Numerals
pub mod Splits
pub mod Utf8
pub mod Loops
pub mod LineLaws
pub mod ScriptLaws
pub mod Refusals
