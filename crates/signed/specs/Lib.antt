-- Signed readings and totals (document 02, Q-1). Numbers says how a signed number travels as a symbol and how a symbol is shown; Caps which caps and readings
-- are refused; SignedBlocks has signed uploads, taking a key off and totals shown; SignedLeaks when a pair leaks among the readings inside a cap.
pub mod Numbers
pub mod Caps
pub mod SignedBlocks
pub mod SignedLeaks
