pub mod Pieces
pub mod Words
pub mod Models
pub mod Signs
pub mod Logs
pub mod Verdicts
