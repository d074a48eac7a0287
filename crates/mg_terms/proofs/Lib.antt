mod Machine
mod Adding
mod Unique
pub mod Beginnings
mod Runs
mod Reaches
pub mod Faults
mod Taking
mod Reached
mod Tokens
pub mod Total
