pub mod Along
pub mod AlongLaws
pub mod Heap
pub mod Run
pub mod StaleUses
pub mod Value
