pub mod ByRules
pub mod InRange
