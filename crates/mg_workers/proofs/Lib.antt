pub mod Counts
pub mod Events
mod Inserts
pub mod Legality
pub mod Pairs
pub mod Rounds
mod Thirds
mod Wanted
