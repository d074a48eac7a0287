mod Answered
mod Worded
mod Answers
mod Spent
mod Carrying
mod Settling
