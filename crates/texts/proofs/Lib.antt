pub mod LineLaws
mod SignLaws
