pub mod Event
pub mod Pickable
pub mod Selection
