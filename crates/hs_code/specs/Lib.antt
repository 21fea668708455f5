pub mod Codes
pub mod Following
pub mod Stacks
