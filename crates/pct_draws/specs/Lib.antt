pub mod ChangePoints
pub mod Order
