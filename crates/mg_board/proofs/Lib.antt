mod Histories
mod Keeps
mod Views
mod Allowed
mod Commits
mod Deals
mod Points
