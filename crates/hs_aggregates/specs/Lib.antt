pub mod Addresses
pub mod Aggregates
