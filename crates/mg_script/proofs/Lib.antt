mod Cuts
mod Rests
mod Written
mod Unique
mod Reaches
mod Standing
mod Steps
mod Words
mod Taken
mod Names
mod Listing
pub mod Trees
mod LineTokens
mod LineLexemes
mod LineCauses
mod Causes
pub mod Scripts
mod LinesRead
mod LineByLine
mod Statements
pub mod Total
