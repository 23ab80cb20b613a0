-- The key stream. Streams has what a draw refuses, where it leaves the position, and what it writes; and the same of a run of draws.
pub mod Streams
