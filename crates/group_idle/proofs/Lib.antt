pub mod Parts
pub mod Room
pub mod Rising
pub mod Stretches
pub mod Inactive
pub mod Hushing
pub mod Busy
pub mod Owing
pub mod Two
pub mod Following
pub mod Accepting
pub mod Behind
pub mod Calming
pub mod Senders
pub mod Deserted
pub mod Cases
pub mod Tying
pub mod Fresh
pub mod Asking
pub mod Holding
pub mod Pending
pub mod Whole
mod Tries
mod Worst
