pub mod Answers
pub mod Wording
pub mod Guaranteeing
pub mod Numbers
