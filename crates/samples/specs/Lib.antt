pub mod Draws
pub mod Rosters
