-- The proofs that the loop is the exchange, and of how many swaps it counts.
pub mod Parts
pub mod Loop
pub mod Counts
