mod Always
pub mod ByFunction
mod Calls
mod Held
pub mod Keeps
mod Moves
mod Names
pub mod Sentences
mod Sums
pub mod Views
mod Waiting
mod Work
