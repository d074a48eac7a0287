pub mod Symbols
pub mod Acceptance
pub mod Room
pub mod Reading
pub mod Walk
pub mod Search
