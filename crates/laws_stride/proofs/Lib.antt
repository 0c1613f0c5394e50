-- The proofs about strides.
pub mod Base
pub mod Put
pub mod Rowwise
pub mod Tests
pub mod Lines
pub mod Operations
pub mod Changes
pub mod Control
pub mod Walk
pub mod Calls
pub mod Values
pub mod Sums
pub mod Keeps
pub mod Solve
pub mod Vectors
pub mod Strides
