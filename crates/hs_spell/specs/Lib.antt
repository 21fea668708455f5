pub mod Appends
pub mod Spelling
