pub mod Gate
pub mod Held
pub mod Log
