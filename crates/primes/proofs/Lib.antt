pub mod Sizes
pub mod Words
pub mod Powers
pub mod Exact
pub mod Lookup
pub mod Verdicts
