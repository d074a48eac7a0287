pub mod Report
pub mod Log
pub mod Refusals
pub mod Values
