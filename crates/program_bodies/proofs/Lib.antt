pub mod Matched
pub mod Placed
pub mod FirstGiven
pub mod OneMore
pub mod SeenNames
pub mod Few
pub mod Entering
pub mod Passing
