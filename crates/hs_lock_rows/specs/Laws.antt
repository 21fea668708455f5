pub mod Exact
pub mod Numbering
pub mod Solved
pub mod Tests
