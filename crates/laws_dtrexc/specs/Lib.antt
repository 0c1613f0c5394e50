-- LAPACK's dtrexc, and what is claimed of our moves beside it.
pub mod Dtrexc
pub mod Choice
pub mod Recorded
pub mod Zeros
