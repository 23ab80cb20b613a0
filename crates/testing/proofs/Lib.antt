mod Loops
mod Symbols
