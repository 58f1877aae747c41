mod Begun
mod Kept
mod Listed
mod Noted
