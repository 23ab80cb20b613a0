-- The records that plans are kept in: a record's bytes, what a reader and a writer refuse, and what they write.
pub mod Records
