pub mod Apart
pub mod Facts
pub mod Fronts
pub mod Holding
pub mod Laid
pub mod Lookups
pub mod Steps
