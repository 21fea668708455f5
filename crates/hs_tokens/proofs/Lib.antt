pub mod Cursors
pub mod Escapes
pub mod Measures
pub mod Parts
mod Rows
pub mod Shared
