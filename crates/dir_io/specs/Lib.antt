pub mod Doubles
pub mod Faults
pub mod Files
pub mod Kept
