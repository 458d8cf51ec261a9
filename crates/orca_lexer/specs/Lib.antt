-- Read first: Tokens, and then Refusal and Spelling. What they rest on: Tables, Shapes, Contents. Order: which place stands before another.
pub mod Tables
pub mod Shapes
pub mod Contents
pub mod Tokens
pub mod Order
pub mod Refusal
pub mod Spelling
pub mod Rules
pub mod Fronts
pub mod Cursors
