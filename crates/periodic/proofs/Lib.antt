pub mod Without
pub mod Rows
pub mod Laws
pub mod Uses
pub mod Settled
