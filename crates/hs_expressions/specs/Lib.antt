pub mod Binding
pub mod Expressions
pub mod Laws
pub mod Operations
pub mod Order
pub mod Roles
