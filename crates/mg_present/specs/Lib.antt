pub mod Presentation
pub mod Ask
pub mod Same
pub mod Image
pub mod Applies
