mod Products
mod Subgroups
mod Bounds
pub mod Keeping
pub mod Ends
mod Accepting
mod Cancelling
mod Choosing
mod Running
