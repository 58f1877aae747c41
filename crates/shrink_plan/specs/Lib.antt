pub mod Places
pub mod Sources
pub mod Causes
pub mod Moving
pub mod States
