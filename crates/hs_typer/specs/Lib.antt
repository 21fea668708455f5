pub mod Declarators
pub mod Declaring
pub mod Origins
pub mod Pairs
pub mod Primaries
pub mod Specifiers
pub mod Steps
pub mod Tags
