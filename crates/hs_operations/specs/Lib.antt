pub mod Numbers
pub mod Operating
pub mod Stacks
pub mod Works
