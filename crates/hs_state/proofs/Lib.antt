mod Classes
mod Loading
