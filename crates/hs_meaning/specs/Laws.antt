-- Laws of runs.
pub mod Changes
pub mod Epochs
pub mod Fuel
pub mod Handles
pub mod Outputs
pub mod Paces
pub mod Schedules
pub mod Shifts
pub mod Still
pub mod Turns
pub mod Unmoved
