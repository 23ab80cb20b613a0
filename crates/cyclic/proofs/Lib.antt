pub mod NetworkForms
pub mod NetworkVerdicts
mod Choices
pub mod DecodingLaws
