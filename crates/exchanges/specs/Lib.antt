pub mod View
pub mod Todo
