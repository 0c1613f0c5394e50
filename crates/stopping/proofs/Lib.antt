pub mod Ended
pub mod Handed
