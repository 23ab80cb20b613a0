-- Entries of cyclic networks for other languages. Counts has a network's ring from the numbers that a caller lends.
pub mod Counts
