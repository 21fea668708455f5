pub mod Aims
pub mod Contexts
pub mod Emits
pub mod Emitting
pub mod EmittingLaws
pub mod Lengths
