pub mod Applied
pub mod Settled
