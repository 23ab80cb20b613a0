-- Entries of whoever deals keys, for other languages. States says which stock the numbers that a caller lends are.
pub mod States
