pub mod Assigning
pub mod Jobs
pub mod Naming
pub mod Noting
pub mod Numbering
pub mod Restoring
pub mod Slots
pub mod Windows
