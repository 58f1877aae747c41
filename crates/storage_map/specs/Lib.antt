pub mod Inside
pub mod Slots
