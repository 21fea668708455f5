mod Declaring
mod Doing
mod Giving
mod Closing
