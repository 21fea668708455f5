pub mod Declarations
pub mod Fronts
