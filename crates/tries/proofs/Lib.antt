pub mod Counts
pub mod Tries
pub mod Three
