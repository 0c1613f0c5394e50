pub mod Short
pub mod Left
pub mod Lines
