mod Layouts
mod Measures
mod Indexing
