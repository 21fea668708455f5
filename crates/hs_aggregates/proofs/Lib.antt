pub mod Counted
pub mod Reaching
