pub mod Answering
pub mod Chains
pub mod Hazards
pub mod Knowledge
pub mod Laws
