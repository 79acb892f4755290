pub mod Walks
pub mod Candidates
pub mod Raising
pub mod Named
pub mod Filling
pub mod Planning
pub mod Judging
