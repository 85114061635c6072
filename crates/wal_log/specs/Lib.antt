pub mod Log
pub mod Events
