pub mod Codes
pub mod Files
pub mod Laws
pub mod Plans
pub mod Records
pub mod Writer
