pub mod Initialisers
pub mod InlineWords
