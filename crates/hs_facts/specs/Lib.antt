pub mod Changes
pub mod Effects
pub mod Laws
pub mod MustFacts
pub mod Names
pub mod Rounds
