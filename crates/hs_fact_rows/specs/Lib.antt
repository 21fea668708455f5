pub mod Cells
pub mod Cuts
pub mod Fields
pub mod Given
pub mod Laws
pub mod Meeting
pub mod Steps
