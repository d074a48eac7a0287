pub mod Rule
pub mod Moves
pub mod Acceptance
pub mod Tape
