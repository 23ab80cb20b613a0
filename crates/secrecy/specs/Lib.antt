-- What may not be learnt. Read Model first: document 000's equations (22), (25), (26) and what each observer sees; then Counts, how source keys are
-- counted; then Leaks: when a pair of coalition and observer leaks, by counts alone.
pub mod Counts
pub mod Model
pub mod Leaks
