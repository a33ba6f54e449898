pub mod Lists
pub mod Stops
