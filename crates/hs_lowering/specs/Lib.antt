pub mod Exact
pub mod Laws
pub mod Lowering
pub mod Performing
pub mod Stacked
pub mod Statements
