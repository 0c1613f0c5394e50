pub mod Counted
pub mod Kinds
pub mod Stands
