pub mod Asks
pub mod NoWords
pub mod Numbers
