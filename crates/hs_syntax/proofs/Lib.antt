pub mod Commas
pub mod Counting
pub mod Firsts
pub mod Lawful
pub mod Nestings
pub mod Opening
pub mod Rows
