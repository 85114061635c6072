pub mod Again
pub mod Events
pub mod Numbers
pub mod Pickables
pub mod Same
