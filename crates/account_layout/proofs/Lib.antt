pub mod Found
pub mod Known
pub mod Parts
pub mod Readings
pub mod Writing
