mod Lists
pub mod Ledger
mod Asks
mod Settling
mod Handing
mod Reading
mod Keepers
mod Events
mod Rounds
mod Onward
pub mod States
pub mod Runs
pub mod Reaching
pub mod Recalls
pub mod Printed
pub mod Steps
mod Refused
mod Told
pub mod Meanings
mod Firsts
mod Seen
mod Moving
mod Phasing
mod Joining
mod Weaving
mod Looked
mod Shown
mod Logged
mod Sessions
pub mod Verdicts
pub mod Widening
