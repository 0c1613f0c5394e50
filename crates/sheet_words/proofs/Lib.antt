pub mod Numerals
pub mod Reading
pub mod Back
pub mod Put
pub mod Page
