pub mod Refusals
pub mod Passing
pub mod Plans
pub mod Fillings
pub mod Answers
