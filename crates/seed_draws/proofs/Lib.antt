pub mod Asked
pub mod Drawn
pub mod Progress
pub mod Shares
pub mod Sources
pub mod Tapes
