pub mod Fault
pub mod Forward
pub mod Gaps
pub mod Image
pub mod Inside
pub mod Seal
pub mod Shown
pub mod Written
