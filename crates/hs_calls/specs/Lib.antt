pub mod Calls
pub mod CallsSince
pub mod Changing
pub mod Globals
pub mod Inside
pub mod Stacks
