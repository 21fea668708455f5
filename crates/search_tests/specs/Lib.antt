pub mod Helper
pub mod Many
