-- Laws of runs on the machine.
pub mod Limits
pub mod Scripts
pub mod Ways
