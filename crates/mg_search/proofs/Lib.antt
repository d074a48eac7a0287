pub mod Turns
pub mod Starts
pub mod Numbered
mod Completed
pub mod Readers
mod Forced
pub mod Opening
