mod Halves
pub mod KeyLaws
pub mod MakerLaws
mod MakerSteps
mod SumLaws
