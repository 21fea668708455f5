pub mod Equations
pub mod Loops
pub mod Places
