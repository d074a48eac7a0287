pub mod Chains
pub mod Free
pub mod Exact
