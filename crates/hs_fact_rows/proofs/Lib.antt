mod Cutting
mod Making
mod Turning
mod Writing
