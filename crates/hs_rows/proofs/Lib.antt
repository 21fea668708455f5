mod Words
mod Lines
mod Changes
