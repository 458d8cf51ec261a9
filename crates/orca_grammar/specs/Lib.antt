pub mod Forms
pub mod Rules
pub mod Reading
pub mod Sets
pub mod Grammar
pub mod Promise
pub mod Wrong
pub mod Words
