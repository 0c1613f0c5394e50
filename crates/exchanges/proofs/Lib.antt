pub mod Exchanges
pub mod Todo
