pub mod Finishing
pub mod FirstCalls
pub mod Globals
pub mod Joined
pub mod Keeping
pub mod Marking
pub mod Programs
pub mod Prototypes
