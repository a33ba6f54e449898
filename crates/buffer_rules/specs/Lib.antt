pub mod Buffered
pub mod Entries
pub mod Rules
pub mod Scripts
