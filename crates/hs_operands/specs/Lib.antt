pub mod Assignments
pub mod Calls
pub mod Laws
pub mod Objects
pub mod Operators
pub mod Pointers
