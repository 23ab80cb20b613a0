-- Laws of integers. Parts makes them facts that omega reads; Bits says what a machine does with signed numbers.
pub mod Parts
pub mod Bits
