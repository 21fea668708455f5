mod Bits
mod Popping
mod Rows
mod Written
