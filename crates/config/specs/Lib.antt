pub mod View
pub mod Build
