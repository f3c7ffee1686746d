-- What a program says of what it read, where it says one thing of every input that is too long.
pub mod Whole
