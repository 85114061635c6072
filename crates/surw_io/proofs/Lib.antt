pub mod MadeRules
pub mod Results
pub mod ShelfRules
pub mod SinkRules
pub mod Told
