-- Rows beyond n, two strides, and the stride n.
pub mod Beyond
pub mod Strides
pub mod Base
