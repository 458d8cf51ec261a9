mod Coming
mod Halting
mod Ending
mod Filling
mod Trying
