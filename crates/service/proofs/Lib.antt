pub mod Fitted
pub mod Laws
pub mod Effects
pub mod Rows
pub mod Settled
