pub mod Laws
pub mod Marks
pub mod Parameters
pub mod Restoring
pub mod Stepping
