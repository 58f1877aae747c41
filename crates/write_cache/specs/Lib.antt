pub mod Inside
pub mod Rows
