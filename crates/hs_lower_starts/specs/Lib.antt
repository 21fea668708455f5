pub mod FirstValues
pub mod Keys
pub mod PartIndex
pub mod Steps
