pub mod Words
pub mod Ranges
pub mod Levels
pub mod Storing
pub mod Uses
pub mod Settled
