pub mod Access
pub mod Keys
pub mod Settled
