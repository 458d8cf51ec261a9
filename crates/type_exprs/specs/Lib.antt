pub mod Wanted
pub mod Scoped
pub mod Callees
