pub mod Numbers
pub mod Passes
pub mod Rule
pub mod Steps
