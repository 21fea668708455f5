pub mod Agree
pub mod Complete
pub mod Precedences
pub mod Runs
pub mod Sound
pub mod Values
