-- Entries of the server for other languages. States says which round and which window the numbers that a caller lends are.
pub mod States
