-- What the test programs share. Numbers has the numbers that are drawn, and arithmetic; Slices what is read and written. Only test
-- programs use it, so nobody has to believe it: a wrong number here makes another test, and no claim.
pub mod Numbers
pub mod Slices
