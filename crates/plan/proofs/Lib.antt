pub mod Lining
pub mod Single
pub mod Late
