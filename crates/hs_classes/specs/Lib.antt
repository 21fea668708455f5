pub mod Blocks
pub mod Naming
pub mod Steps
