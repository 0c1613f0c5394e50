pub mod Numbers
pub mod Blocks
pub mod Rows
pub mod Forms
