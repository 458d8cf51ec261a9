pub mod Limits
pub mod Known
pub mod StartsFit
pub mod Numbers
pub mod Meets
pub mod NextNamed
