-- The proof that a move's exchanges are dtrexc's.
pub mod Lists
pub mod Quiet
pub mod Kept
pub mod Seen
pub mod Agree
pub mod Down
pub mod Up
pub mod Choice
pub mod Rounds
pub mod Arrives
pub mod Recorded
pub mod Next
pub mod Follow
pub mod Ours
pub mod Any
pub mod Zeros
