pub mod Put
pub mod Page
pub mod View
