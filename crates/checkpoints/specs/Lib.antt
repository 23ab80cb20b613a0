-- A relay's round kept over a power cut: Checkpoints has the bytes of a save, saving, finding and reading one; Stores saves one after the other; Replays what
-- is repeated after coming back.
pub mod Checkpoints
pub mod Stores
pub mod Replays
