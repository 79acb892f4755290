pub mod Refusals
pub mod Entries
pub mod Sections
pub mod Layout
pub mod OrderSection
pub mod Spaces
pub mod Writing
