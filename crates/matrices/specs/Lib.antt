-- Rows modulo q. Linear has rows and their combinations; Rank the rank, by trying all coefficients; Tables what elimination does to a table; Sweeps what it
-- does to values beside the rows; Entries the checked rank's refusals. For secrecy only Linear and Rank matter.
pub mod Linear
pub mod Rank
pub mod Tables
pub mod Sweeps
pub mod Entries
