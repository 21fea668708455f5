mod Completed
mod Refused
