-- The laws of text in a buffer, which a caller cites without opening specs/Text.
pub mod Writing
pub mod Decimals
pub mod Numerals
pub mod Printing
pub mod Lengths
pub mod Feeds
pub mod Paging
