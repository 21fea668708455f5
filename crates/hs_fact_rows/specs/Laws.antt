pub mod Exact
pub mod Numbers
pub mod Solved
