pub mod Accepted
pub mod Runs
pub mod Some
pub mod Below
pub mod Above
