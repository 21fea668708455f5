mod Along
mod Rows
