-- Entries of a pool on paper for other languages. States says which run the numbers that a caller lends are.
pub mod States
