pub mod Ways
pub mod Loops
