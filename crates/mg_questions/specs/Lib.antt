pub mod Meaning
pub mod Goals
pub mod Asking
pub mod Content
