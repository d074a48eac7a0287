pub mod Map
pub mod Number
pub mod Exponents
pub mod Kept
pub mod Walk
pub mod Search
