pub mod Lines
pub mod Number
pub mod Prefix
pub mod Tokens
