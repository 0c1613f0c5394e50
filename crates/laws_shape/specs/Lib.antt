-- What is claimed of a form that calls have worked on.
pub mod Numbers
pub mod Steps
pub mod Meets
pub mod Chains
