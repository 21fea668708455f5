pub mod Functions
pub mod Opening
pub mod Units
