pub mod Count
pub mod Ends
pub mod Grammar
pub mod Reading
pub mod Rows
