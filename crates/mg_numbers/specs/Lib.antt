pub mod Blocks
pub mod Perms
pub mod Residues
pub mod Texts
pub mod Plain
