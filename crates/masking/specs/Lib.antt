-- Masking: what a user sends, and taking a key off. Blocks has both, their refusals, and what they write.
pub mod Blocks
