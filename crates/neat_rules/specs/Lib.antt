pub mod Machine
pub mod Reading
pub mod Rules
pub mod State
