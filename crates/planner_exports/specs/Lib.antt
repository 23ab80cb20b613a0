-- Entries of a planner for other languages. Asked says what the numbers that a caller hands over ask for.
pub mod Asked
