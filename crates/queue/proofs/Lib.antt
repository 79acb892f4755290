pub mod Ordered
pub mod Slots
pub mod Laws
