pub mod DayViews
pub mod Days
mod Outlines
mod RoundAnswers
mod RelayAnswers
pub mod Fixed
pub mod Stated
