pub mod View
pub mod Known
pub mod Handed
