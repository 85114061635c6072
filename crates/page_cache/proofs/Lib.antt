pub mod PagesApart
pub mod MovedFrames
pub mod NewCache
pub mod ListWalk
