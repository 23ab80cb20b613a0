-- The verdict on a plan. Pools says what the equations speak of; Walk has the pairs in their order; Vet the vet's checks; Length how many pairs there are, and
-- how many were looked at; Joint the vet with two relays under one lock; Largest which coalitions are the largest. Walking and Growing are no part of it: what
-- private functions compute.
pub mod Walk
pub mod Vet
pub mod Length
pub mod Joint
pub mod Largest
pub mod Walking
pub mod Growing
pub mod Pools
