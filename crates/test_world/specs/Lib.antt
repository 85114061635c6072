pub mod Monitor
pub mod Size
pub mod World
