pub mod Command
pub mod Exit
pub mod Message
pub mod Answer
pub mod Spent
pub mod Carried
pub mod Settling
