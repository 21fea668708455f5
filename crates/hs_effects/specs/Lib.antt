pub mod Answers
pub mod Calling
pub mod Effecting
pub mod Owning
pub mod Working
