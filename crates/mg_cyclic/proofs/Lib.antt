pub mod Sums
mod Found
mod Raises
mod Stretches
mod Tallies
