pub mod Source
pub mod Straight
