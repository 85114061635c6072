pub mod FaultText
pub mod Item
