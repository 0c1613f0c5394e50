pub mod Run
pub mod Lines
pub mod Shaped
pub mod Deep
