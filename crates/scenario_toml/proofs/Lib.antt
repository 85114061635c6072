pub mod Items
pub mod MadeThreads
pub mod Trees
pub mod UnknownKeys
pub mod UnknownKinds
pub mod Watches
