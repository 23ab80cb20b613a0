-- Lines of text: the digits of a number, and what a line holds after some bytes were typed.
pub mod Texts
