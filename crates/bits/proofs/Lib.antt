pub mod Digits
pub mod Nan
