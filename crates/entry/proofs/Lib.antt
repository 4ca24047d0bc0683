pub mod Gate
pub mod Frames
pub mod Settled
