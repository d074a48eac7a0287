mod Parts
mod Ranks
mod Chains
mod Firsts
mod Confluence
pub mod Groups
mod Reading
mod Adding
mod Meetings
mod Orders
mod Checks
mod Behind
mod Trees
