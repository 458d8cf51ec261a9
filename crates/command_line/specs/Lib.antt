pub mod Numbers
pub mod Rules
pub mod Asked
pub mod Command
pub mod Help
