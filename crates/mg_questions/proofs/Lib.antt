pub mod Agreement
pub mod Asked
pub mod Bounds
mod Commuting
mod Conjugation
mod Exact
mod Forms
mod Mapping
pub mod Tables
