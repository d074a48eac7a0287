pub mod BlocksNth
mod BlocksLex
mod ResiduesRank
pub mod PermsRank
mod PermsTuples
mod BlocksRank
mod BlocksTuples
pub mod ResiduesLaws
pub mod PermsLaws
mod BlocksSteps
mod PermsSteps
mod BlocksCounts
pub mod Beginnings
pub mod BeginningsPerms
pub mod TextsPlain
mod TextsSteps
pub mod TextsValues
