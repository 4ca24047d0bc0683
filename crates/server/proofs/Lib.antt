pub mod Begun
pub mod Runs
pub mod Between
pub mod Settled
