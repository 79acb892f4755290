pub mod Exclusive
pub mod Asked
pub mod Ranked
pub mod Counted
pub mod Events
