pub mod Expressed
pub mod Moves
pub mod Turn
pub mod Choice
pub mod Sounds
