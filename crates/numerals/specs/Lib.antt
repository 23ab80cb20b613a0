-- Numbers as bytes, and rows of them.
pub mod Bytes
