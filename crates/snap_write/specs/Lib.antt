pub mod Changes
pub mod Faults
pub mod Snapshot
pub mod Written
