pub mod Lines
pub mod Ups
