pub mod Lexeme
pub mod Word
pub mod Event
pub mod Beginning
pub mod Cause
pub mod Reading
pub mod Reader
pub mod Read
