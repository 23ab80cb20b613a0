-- One key stream for several pools (document 02, Q-10). Start with Stocks: what an opening and a draw refuse, what they leave and write, and the same of a list
-- of draws. Machine has what the private parts compute; nothing there has to be believed.
pub mod Stocks
pub mod Machine
