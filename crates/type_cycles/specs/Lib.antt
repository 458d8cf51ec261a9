pub mod Leading
pub mod Components
