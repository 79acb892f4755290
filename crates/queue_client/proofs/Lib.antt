pub mod Draining
pub mod Places
