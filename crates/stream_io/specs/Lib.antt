pub mod Adapters
pub mod Doubles
pub mod Faults
pub mod Stream
