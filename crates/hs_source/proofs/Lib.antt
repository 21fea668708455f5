pub mod Programs
pub mod Units
