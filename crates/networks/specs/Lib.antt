-- The cyclic network in code. Rings has the counts, what they stand for, and the refusals in their order. Machine and Grids have what private functions ask and
-- what the tables that are eliminated hold; nothing there has to be believed.
pub mod Rings
pub mod Machine
pub mod Grids
