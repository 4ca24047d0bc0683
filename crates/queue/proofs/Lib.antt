pub mod Laws
pub mod Over
pub mod Records
pub mod Replied
pub mod Room
pub mod Settled
