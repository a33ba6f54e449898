pub mod Bus
pub mod Copies
pub mod Rows
