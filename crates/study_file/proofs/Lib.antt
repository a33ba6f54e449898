pub mod Exactness
pub mod Filling
pub mod Items
pub mod Judging
pub mod Planning
pub mod Soundness
pub mod Trips
