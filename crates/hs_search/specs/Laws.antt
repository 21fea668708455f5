-- Laws of the search's definitions.
pub mod Chaining
pub mod Comparing
pub mod Exactness
pub mod Leasts
pub mod Lengths
pub mod Membership
pub mod Nodes
pub mod Orders
pub mod Trailing
