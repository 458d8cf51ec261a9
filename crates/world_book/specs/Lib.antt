pub mod Processes
pub mod Promise
pub mod Submitting
pub mod Holding
pub mod Sounding
pub mod Following
