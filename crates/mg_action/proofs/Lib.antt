mod Permutations
pub mod Words
pub mod Rows
mod Passing
mod Reading
mod Beginnings
mod Stretches
mod NextRanks
mod NextTuples
