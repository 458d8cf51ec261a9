pub mod InFront
pub mod FieldsLast
pub mod Leaving
pub mod Rows
pub mod FirstOnes
pub mod Scoped
pub mod Judging
