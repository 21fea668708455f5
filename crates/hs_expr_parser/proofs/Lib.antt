pub mod Indexed
pub mod Numbered
pub mod Reached
pub mod Seen
pub mod Stepping
pub mod Taken
pub mod WorkedReadings
