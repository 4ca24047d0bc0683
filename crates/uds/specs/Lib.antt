pub mod Clock
pub mod Result
pub mod Table
pub mod Values
pub mod Rows
