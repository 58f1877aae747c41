pub mod Jobs
pub mod Causes
pub mod Moving
pub mod States
