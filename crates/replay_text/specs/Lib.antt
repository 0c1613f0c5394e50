pub mod Text
pub mod Float
pub mod Shown
pub mod Names
pub mod Counts
