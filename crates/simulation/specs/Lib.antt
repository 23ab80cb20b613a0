-- A pool on paper (document 02, Q-8), from bytes to lines. Runs has what the program `simulate` prints, from the bytes that it reads, and Steps the same one
-- line at a time. Drawing is no part of it: what private functions compute.
pub mod Runs
pub mod Steps
pub mod Drawing
