pub mod Leading
pub mod Soundness
mod Stacks
mod Numbers
mod Making
mod Following
