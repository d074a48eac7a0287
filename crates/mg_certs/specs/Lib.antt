pub mod Claim
pub mod Records
pub mod Refuting
pub mod Validity
pub mod Values
