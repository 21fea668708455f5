pub mod BlockLaws
pub mod Blocks
pub mod Memory
pub mod Passes
pub mod Shift
pub mod ShiftLaws
