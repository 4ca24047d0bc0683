pub mod Limits
pub mod Kept
pub mod Grown
pub mod NewRows
pub mod Building
pub mod RoundTrip
pub mod Settled
