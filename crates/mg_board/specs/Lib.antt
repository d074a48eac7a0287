pub mod History
pub mod Passes
pub mod Seats
pub mod Shared
