pub mod EmptySlots
