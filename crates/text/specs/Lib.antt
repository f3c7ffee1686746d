-- Decimal numbers, the lines that the program prints, and what it means that a buffer holds a text.
pub mod Text
pub mod Paging
