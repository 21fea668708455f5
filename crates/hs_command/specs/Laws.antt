-- Laws of calls.
pub mod Shown
