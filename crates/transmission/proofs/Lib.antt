pub mod Laws2A
pub mod Settled
