pub mod Found
pub mod Goals
pub mod Reading
pub mod Steps
pub mod Typedefs
pub mod Units
pub mod Words
