mod Edits
mod Keys
mod Moves
mod Steps
mod Cells
mod Cached
