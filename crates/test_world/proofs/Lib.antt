pub mod PagesAhead
pub mod StampedPages
pub mod MarkRises
pub mod NewWorld
