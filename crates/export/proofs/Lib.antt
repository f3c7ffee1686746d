-- The laws of the picture: tables as they are read and stored, the picture of a policy as a whole, that it is faithful;
-- what a list leaves in three buffers, what is told of a gain, the answers to questions, how many lines a report has, a
-- policy on a card, and a waiting line in bytes.
pub mod Tabling
pub mod Storing
pub mod Picturing
pub mod Faithful
pub mod Filling
pub mod Telling
pub mod Existing
pub mod Asking
pub mod Counting
pub mod Carding
pub mod Queueing
