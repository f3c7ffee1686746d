-- The laws of the waiting line: what the loops over the places find, what each event comes to, that the record after an
-- event says the line after it, what no event changes, that a record from a start stores its line, how large its numbers
-- are, what a call does to one who waits, that nobody waits for ever, and who holds the radio.
pub mod Placing
pub mod Fitting
pub mod Stepping
pub mod Saying
pub mod Keeping
pub mod Storing
pub mod Numbers
pub mod Calling
pub mod Waiting
pub mod Claimed
