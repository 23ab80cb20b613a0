-- Key tables and individual keys. Maker has the table maker's rate and table, Keys the keys of each user; both what those entries refuse and write.
pub mod Maker
pub mod Keys
