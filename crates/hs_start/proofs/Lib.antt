mod Naming
mod Refusing
