-- Pools: the entry of one pool, and those of the others. StockLaws: what the checks mean, and what an answered draw leaves. Runs: lists of draws.
-- Exactness: which stocks draws leave. Shares: that a pool gets its reserve.
pub mod Pools
pub mod StockLaws
pub mod Runs
pub mod Exactness
pub mod Shares
