-- The exchange as a loop, and the number of its swaps.
pub mod Loop
pub mod Counts
