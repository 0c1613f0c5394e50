-- The proofs of what is claimed of the move that stops.
pub mod Control
pub mod Agree
pub mod Down
pub mod Up
pub mod Follows
pub mod Stops
pub mod Whole
pub mod Standard
