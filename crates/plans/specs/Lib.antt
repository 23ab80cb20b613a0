-- Plans. Plans has the counts and their bounds, the constructor's answer, and the checks of a plan and its key table that come before any other.
pub mod Plans
