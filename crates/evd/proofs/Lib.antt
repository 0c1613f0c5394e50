pub mod Lines
pub mod Part
pub mod Places
pub mod Sums
