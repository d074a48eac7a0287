mod Alone
mod Askings
pub mod Asks
mod Bounds
mod Causes
mod Declarations
mod Grants
mod Groups
mod Leasts
mod Led
mod Lengths
pub mod Lines
mod Lookups
mod Mappings
mod Members
mod NameKinds
mod Pairs
mod Parts
mod Places
pub mod Plans
mod Reading
mod Readings
pub mod Refusals
mod Scopes
mod Signs
mod Skips
mod Large
mod Tails
mod Tokens
mod Trees
mod Turns
mod WordLists
mod Adding
mod Adds
