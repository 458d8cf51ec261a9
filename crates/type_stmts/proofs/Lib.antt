pub mod FirstNames
pub mod InnerLoops
pub mod OneMore
