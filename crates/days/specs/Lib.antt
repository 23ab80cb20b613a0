-- A whole day (document 02, Q-12). Read Runs first: a run of rounds, each with a source key of its own, and what is sent in it; then Machines: an observer's
-- round as a machine, its schedule and its transcript; then Observers: the relay's and the server's round as such machines; then Days: what is seen of a day.
pub mod Runs
pub mod Machines
pub mod Observers
pub mod Days
