-- Laws of facts that flow.
pub mod Calling
pub mod Coming
pub mod Naming
pub mod Parameters
pub mod Programs
pub mod Staying
