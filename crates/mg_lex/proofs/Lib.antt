mod Classes
mod Keywords
mod Numbers
mod Words
pub mod Cuts
pub mod Firsts
mod Steps
mod Lines
pub mod Total
