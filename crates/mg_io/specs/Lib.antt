pub mod Bytes
pub mod Causes
pub mod Counted
pub mod Memory
pub mod Written
