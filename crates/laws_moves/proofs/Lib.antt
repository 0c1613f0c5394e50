pub mod Places
pub mod Swap
pub mod Upper
pub mod Rows
pub mod Move
pub mod Lists
pub mod BothKinds
pub mod Worked
