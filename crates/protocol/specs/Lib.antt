pub mod Cells
pub mod Meaning
pub mod Moment
pub mod Refusals
pub mod Rules
pub mod Steps
