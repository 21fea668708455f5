pub mod Movers
pub mod ScriptRanges
pub mod ScriptTexts
pub mod Seeds
