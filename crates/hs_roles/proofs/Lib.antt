mod Copying
mod Moving
mod Placing
