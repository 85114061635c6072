pub mod EveryOrder
pub mod KeepsOrder
pub mod SelectedOrder
pub mod SurwIsUrw
pub mod SurwScript
