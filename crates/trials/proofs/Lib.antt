pub mod DrawLaws
mod HeardLaws
mod RelayLaws
pub mod MaskLaws
mod OrderLaws
pub mod TrialLaws
