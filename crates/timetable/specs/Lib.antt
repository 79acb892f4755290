pub mod Refusals
pub mod Questions
pub mod Ranking
pub mod Drawing
pub mod Workloads
