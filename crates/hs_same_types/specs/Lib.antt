pub mod Representatives
