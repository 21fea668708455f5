pub mod Changing
pub mod Exact
pub mod Impacts
