pub mod Lines
pub mod Lists
pub mod Numerals
pub mod Pieces
pub mod Printed
mod Rows
pub mod ScriptTextLaws
pub mod Told
