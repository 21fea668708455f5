pub mod Causes
pub mod Laws
pub mod Movers
pub mod Names
pub mod Report
pub mod RunCauses
pub mod Runs
pub mod Words
