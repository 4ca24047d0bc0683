pub mod Rules
pub mod Seen
