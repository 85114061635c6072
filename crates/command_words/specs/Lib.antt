pub mod Ask
pub mod Command
pub mod Given
pub mod Job
pub mod Number
