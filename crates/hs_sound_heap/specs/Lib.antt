pub mod Roles
pub mod Shifts
pub mod Since
