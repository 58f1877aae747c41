pub mod NoneAlive
pub mod Entries
pub mod Ranges
