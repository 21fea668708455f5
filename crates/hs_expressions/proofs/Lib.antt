mod Derived
mod Rows
mod MembersNext
mod Shaped
