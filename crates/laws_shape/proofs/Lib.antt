-- The proofs about the shape of a form, its numbers, and the buffers beside it.
pub mod Numbers
pub mod Within
pub mod Shape
pub mod Swapped
pub mod Steps
pub mod Blocks
pub mod Exchanges
pub mod Walk
pub mod Meets
pub mod Chains
