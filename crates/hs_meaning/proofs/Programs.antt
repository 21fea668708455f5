-- Worked rows: whole programs, and how their runs end. `Terms.antt` and `Forms.antt` have their words, and `Row.antt` says what a row says.
pub mod Terms
pub mod Forms
pub mod Row
mod Example
mod Frame
mod Blocks
mod Objects
mod Sorts
mod StateBytes
mod Turns
mod Control
mod Calls
mod Structs
mod Parts
mod Plain
mod Answers
mod Inputs
mod Allocated
mod Globals
mod Initialisers
mod Operators
mod Numbers
mod FrameLimit
mod Segments
mod Uses
mod Powers
mod Nested
mod Between
mod Comparisons
mod Cells
mod Order
mod Allocations
mod Fills
mod Branches
