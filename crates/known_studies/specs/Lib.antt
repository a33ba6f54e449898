pub mod Cases
pub mod Ends
pub mod Generated
pub mod Shown
