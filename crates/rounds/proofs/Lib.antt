mod CheckLaws
mod RelaySteps
mod ReportedLaws
mod StepLaws
pub mod Zeros
pub mod FitSums
pub mod LedgerLaws
pub mod RelayLedger
pub mod RelaySums
pub mod RoundLaws
pub mod Runs
