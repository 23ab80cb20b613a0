-- What every layer speaks with. Lists has lists by their entries; Sums sums and counts of numbers; Search the two finite searches that tests are made of,
-- and whether a number is one of 1 to n; Bits a number's bits, in which coalitions and those who have reported are kept.
pub mod Bits
pub mod Lists
pub mod Search
pub mod Sums
