-- One round on paper (document 02, Q-8). Generator has the numbers that are drawn; Trials the round, by document 000's equations, and Answers what is told
-- of it. Drawing is no part of it: what private functions compute.
pub mod Generator
pub mod Trials
pub mod Answers
pub mod Drawing
