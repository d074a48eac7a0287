pub mod Exact
pub mod Images
pub mod Sameness
