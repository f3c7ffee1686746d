-- The rules of the judge, in the order of document 01: what a record asks for, who may send what, what each request does, what it
-- gives, when the board says no, the judge; then the same rules in a second wording; and document 01's sample.
pub mod Records
pub mod Authority
pub mod Doing
pub mod Gains
pub mod Refusals
pub mod Judging
pub mod Allowing
pub mod Sample
pub mod Trials
pub mod Edges
