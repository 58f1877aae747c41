pub mod Bins
pub mod Index
pub mod Inside
pub mod Places
