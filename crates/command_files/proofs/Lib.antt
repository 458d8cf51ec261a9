pub mod AskedFiles
pub mod ReadFiles
