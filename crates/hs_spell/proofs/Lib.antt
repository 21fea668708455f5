pub mod Sourced
pub mod Written
pub mod WrittenDeclarations
