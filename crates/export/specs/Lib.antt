-- The picture of a policy in bytes, what is judged by it, how many lines a report has, what a whole list leaves, what
-- is told of a refusal for own gain, the answers to questions on a policy, a policy on a card, and a waiting line in
-- bytes.
pub mod Picture
pub mod Counted
pub mod Listed
pub mod Told
pub mod Asked
pub mod Carded
pub mod Queued
