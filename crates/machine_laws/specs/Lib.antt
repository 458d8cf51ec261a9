pub mod ValueLaws
pub mod LawsOnce
pub mod MachineLaws
pub mod ReadsKept
