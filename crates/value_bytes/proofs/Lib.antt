pub mod Fields
pub mod Items
pub mod Orders
pub mod Values
pub mod Facts
pub mod Loop
