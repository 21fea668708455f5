pub mod Beside
pub mod Codes
pub mod Depths
pub mod Laws
pub mod Runs
pub mod Steps
