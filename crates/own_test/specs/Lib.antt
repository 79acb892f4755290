pub mod Few
pub mod Fewer
