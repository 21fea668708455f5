-- Laws of must facts and effects.
pub mod Bytes
pub mod Effects
pub mod More
pub mod Rows
