mod Mentioned
mod PlainSteps
mod Shown
