mod Counting
mod Storing
