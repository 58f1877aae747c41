pub mod Filters
mod Lookups
pub mod Places
pub mod Newest
