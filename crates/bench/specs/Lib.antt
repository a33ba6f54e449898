pub mod Benches
pub mod Chains
pub mod Computed
pub mod Faults
pub mod Handovers
pub mod Requests
