pub mod Logs
pub mod Passes
pub mod Runs
pub mod Sends
