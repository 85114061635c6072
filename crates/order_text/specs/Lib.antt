pub mod Counts
pub mod DrawsFile
pub mod DrawsText
pub mod FileFault
pub mod Lines
pub mod OrderFile
pub mod OrderText
