-- The laws of the card: records and their bytes; the order of the file; what a store of one changes; what the reader takes; policies that are
-- the same; the theorems; the loops; what `unwrap_or` makes of an answer.
pub mod Records
pub mod Runs
pub mod Places
pub mod Framing
pub mod Storing
pub mod Blank
pub mod Taking
pub mod Returning
pub mod Alike
pub mod SoundAlike
pub mod Theorems
pub mod Largest
pub mod Penning
pub mod Rowing
pub mod Stepping
pub mod Tried
pub mod Answering
