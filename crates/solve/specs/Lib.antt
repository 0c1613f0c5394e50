pub mod Columns
pub mod Numbers
pub mod View
