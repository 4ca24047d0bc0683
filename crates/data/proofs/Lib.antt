pub mod Laws22
pub mod Fitted22
pub mod Laws2E
pub mod Settled
