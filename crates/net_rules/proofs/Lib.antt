pub mod Travelling
pub mod Alone
