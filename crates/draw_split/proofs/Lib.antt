pub mod AllDraws
pub mod Bag
pub mod Bijection
pub mod JoinedDraws
pub mod Lists
pub mod NamedOrders
pub mod Refusals
pub mod Rooms
