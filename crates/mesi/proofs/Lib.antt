pub mod Alone
pub mod Owned
pub mod FindMap
