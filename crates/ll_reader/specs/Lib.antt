pub mod DefineLine
pub mod FileLines
pub mod FileSpells
pub mod Functions
pub mod Sentence
