pub mod Fine
pub mod Names
