pub mod Answers
pub mod Changing
pub mod Ends
pub mod Functions
pub mod Laws
