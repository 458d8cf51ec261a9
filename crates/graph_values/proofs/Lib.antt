mod Forms
mod Names
mod Making
mod Kept
mod Told
mod Sound
