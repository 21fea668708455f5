pub mod Control
pub mod Programs
pub mod Stacks
pub mod Steps
