pub mod Jobs
pub mod Schedule
pub mod Existence
pub mod Analysis
