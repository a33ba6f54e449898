pub mod Tables
pub mod Invariant
mod Drift
pub mod Slots
mod Parts
mod Calls
mod Ends
mod Moves
pub mod Keeps
