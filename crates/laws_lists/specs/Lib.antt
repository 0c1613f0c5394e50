-- What is claimed of a list of moves at once.
pub mod Turns
pub mod Rule
pub mod Keeps
