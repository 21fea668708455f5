mod Mains
mod Rows
