pub mod Laws
pub mod Source
