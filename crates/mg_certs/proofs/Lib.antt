mod Firsts
mod Normals
mod Summed
pub mod Truth
