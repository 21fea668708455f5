pub mod Arithmetic
pub mod Characters
pub mod Conditions
pub mod Digits
pub mod Escapes
pub mod Numbers
pub mod Reading
pub mod Strings
