pub mod Debts
pub mod Endings
pub mod StudyLaw
pub mod TableLaw
pub mod Watching
