pub mod Notions
pub mod Vectors
pub mod Spans
pub mod Duality
pub mod RankLaws
pub mod Solvability
pub mod LargestRank
pub mod Elimination
pub mod Sweeping
pub mod KeptRows
pub mod EliminateLaw
mod RankExamples
mod Steps
mod Carrying
pub mod Rows
mod RankChecks
pub mod MadeVectors
