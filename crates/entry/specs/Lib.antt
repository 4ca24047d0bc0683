pub mod Address
pub mod Gate
