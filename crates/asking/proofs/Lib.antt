pub mod None
pub mod Asks
pub mod Settled
