-- The runs of straight trees: what a moving run keeps, and that it goes as the still one if no use is stale.
pub mod Still
pub mod Alike
pub mod Blocks
pub mod Kept
pub mod Steps
pub mod Sound
