mod Kept
mod Newest
