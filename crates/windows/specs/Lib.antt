-- The rolling hour (document 02, Q-2). Runs has the sum and the largest of a run of totals, and its last ones; Windows what a run leaves, and what each call
-- answers.
pub mod Runs
pub mod Windows
