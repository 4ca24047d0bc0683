pub mod Drained
pub mod Asked
pub mod Questioned
pub mod Ended
pub mod Ticks
pub mod Settled
