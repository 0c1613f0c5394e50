pub mod Turns
pub mod Rule
pub mod Keeps
