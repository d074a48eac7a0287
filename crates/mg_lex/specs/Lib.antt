pub mod Keyword
pub mod Mark
pub mod Number
pub mod Token
pub mod Line
pub mod Cause
pub mod Step
pub mod Refusal
