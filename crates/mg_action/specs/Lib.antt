pub mod Permutation
pub mod Action
pub mod Number
pub mod Layout
pub mod Next
pub mod Walk
pub mod Search
