pub mod Modulus
pub mod Limbs
