pub mod Equations
pub mod Indexing
pub mod Loops
