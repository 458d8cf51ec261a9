pub mod Scenes
pub mod OneCell
pub mod LostEntry
pub mod NetworkSteps
pub mod ProcessSteps
pub mod SingleCopies
pub mod Wrong
