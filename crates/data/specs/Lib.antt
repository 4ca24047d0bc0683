pub mod Later
pub mod View22
