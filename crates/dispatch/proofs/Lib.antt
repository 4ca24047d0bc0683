pub mod Routes
pub mod Settled
