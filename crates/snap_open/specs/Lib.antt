pub mod Faults
pub mod Images
pub mod Opening
pub mod Sizes
pub mod Steps
pub mod Texts
