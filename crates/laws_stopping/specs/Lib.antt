-- What is claimed of the move that stops.
pub mod Control
pub mod Made
pub mod Stops
pub mod Follows
pub mod Whole
pub mod Standard
