pub mod Listed
pub mod Settings
pub mod Stages
