pub mod Bindings
pub mod Machines
pub mod Settings
