pub mod Filling
pub mod TwoDigits
