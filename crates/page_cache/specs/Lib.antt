pub mod Cache
pub mod Events
pub mod Sound
