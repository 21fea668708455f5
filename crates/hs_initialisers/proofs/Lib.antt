pub mod Choices
mod Rows
