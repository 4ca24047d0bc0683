pub mod Fitted
pub mod Seen
pub mod Act
pub mod Effects
