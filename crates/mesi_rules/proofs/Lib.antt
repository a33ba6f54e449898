pub mod Law
pub mod Whole
