pub mod Steps
pub mod Walk
pub mod Ticked
pub mod Settled
