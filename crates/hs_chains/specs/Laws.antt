-- Laws of chains.
pub mod Knowing
