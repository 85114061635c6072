pub mod LineNames
pub mod Replies
pub mod Run
pub mod Settle
pub mod Shapes
pub mod Tokens
