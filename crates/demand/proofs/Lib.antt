pub mod Rounding
pub mod Bounds
pub mod Monotone
pub mod Search
pub mod Sums
pub mod Present
