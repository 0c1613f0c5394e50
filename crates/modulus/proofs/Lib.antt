pub mod Parts
pub mod Step
pub mod Fit
pub mod Pattern
pub mod Tested
pub mod Ordered
