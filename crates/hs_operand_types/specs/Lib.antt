pub mod Answers
pub mod Constants
pub mod Conversions
pub mod Folding
pub mod Operands
pub mod Types
