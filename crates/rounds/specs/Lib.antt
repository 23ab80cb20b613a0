-- Rounds. Ledger has what was counted; Rounds the checks of a state and of a frame, a step, and the same by the ledger; Relays what a relay holds for the
-- next round, its events, and the same by the log. Machine is no part of it: what private functions compute.
pub mod Ledger
pub mod Machine
pub mod Relays
pub mod Rounds
