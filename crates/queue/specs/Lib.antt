pub mod Over
pub mod View
