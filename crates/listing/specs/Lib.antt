pub mod Texts
pub mod Pens
pub mod Rows
