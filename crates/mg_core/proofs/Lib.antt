mod Books
mod Firsts
mod Gathers
pub mod Hands
mod Indexes
pub mod Logs
pub mod Scans
mod Joined
