pub mod Rows
pub mod Writing
pub mod inner
