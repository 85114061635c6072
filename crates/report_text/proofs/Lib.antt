pub mod SelectedEntries
pub mod TextPrefixes
