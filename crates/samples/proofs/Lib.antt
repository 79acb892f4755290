pub mod Taking
pub mod Holding
