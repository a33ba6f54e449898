pub mod Guarantee
pub mod Log
pub mod Races
pub mod Study
pub mod Table
