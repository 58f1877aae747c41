pub mod Searches
pub mod Dropping
pub mod Tombs
pub mod Spending
pub mod Taking
pub mod Unholding
pub mod Storages
pub mod Answered
