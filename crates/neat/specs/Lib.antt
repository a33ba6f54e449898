pub mod Blocks
pub mod Calls
pub mod Lines
pub mod Parts
pub mod Places
pub mod Whole
