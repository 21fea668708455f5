mod Compared
mod Kept
mod Lists
mod Named
mod Rows
mod Tagged
