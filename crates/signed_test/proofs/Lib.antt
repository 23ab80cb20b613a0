-- The laws by which sums, differences and remainders of 64 bits fit.
pub mod Fits
