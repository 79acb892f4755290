pub mod Demand
pub mod Present
