-- Entries of a relay for other languages. States says which round the numbers that a caller lends are.
pub mod States
