pub mod Pending
pub mod Request
pub mod View
