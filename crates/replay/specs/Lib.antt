pub mod Table
pub mod Replayed
pub mod View
pub mod Report
