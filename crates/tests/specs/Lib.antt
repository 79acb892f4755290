pub mod Rules
pub mod Words
pub mod Guarantee
pub mod Keeps
pub mod Places
pub mod Blocking
