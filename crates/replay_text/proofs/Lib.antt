pub mod Found
pub mod Places
pub mod Words
pub mod Names
