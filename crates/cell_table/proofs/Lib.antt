pub mod Padded
pub mod Changes
pub mod Sound
pub mod Grown
