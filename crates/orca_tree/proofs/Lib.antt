pub mod Joined
pub mod Led
pub mod PrintedSound
pub mod Rows
pub mod Spelled
pub mod SpelledRows
pub mod FirstPlaces
