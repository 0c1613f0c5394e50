pub mod Hypot
pub mod Left
pub mod Negated
