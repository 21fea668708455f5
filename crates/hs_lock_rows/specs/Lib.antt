pub mod Changing
pub mod Given
pub mod Knowing
pub mod Laws
pub mod Layout
pub mod Making
pub mod Own
