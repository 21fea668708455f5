mod Found
mod PlainChanges
mod Rows
