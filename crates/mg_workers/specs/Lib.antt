pub mod Examples
pub mod Round
pub mod Rows
pub mod Run
pub mod Seats
