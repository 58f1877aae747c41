pub mod Rows
pub mod TestKeys
pub mod Same
