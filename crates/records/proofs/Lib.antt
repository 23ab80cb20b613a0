pub mod RecordLaws
pub mod RecordChecks
pub mod Trailers
pub mod Widths
mod PlanSizes
mod RecordExamples
