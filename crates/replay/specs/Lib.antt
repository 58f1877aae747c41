pub mod Standing
pub mod Saved
pub mod Journaled
pub mod Ending
pub mod Playing
