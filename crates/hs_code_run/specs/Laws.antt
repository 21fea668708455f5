-- Laws of code runs.
pub mod Changes
pub mod Depths
pub mod Epochs
pub mod OneWay
pub mod Outputs
pub mod Turns
