pub mod Count
pub mod Lending
pub mod Rule
pub mod Seat
pub mod Table
pub mod Turn
