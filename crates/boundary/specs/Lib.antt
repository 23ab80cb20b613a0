-- What the entries for other languages share. Packed makes one number of a code; Counts has a plan from the numbers that a caller lends, and back.
pub mod Packed
pub mod Counts
