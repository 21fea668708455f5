pub mod Aiming
pub mod Lowered
pub mod Places
pub mod Writing
