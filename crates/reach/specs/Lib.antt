-- What a reader of the crate must believe, in the order of document 01: words as sets and tests, the tables, reach, privileges, the
-- successors, whole and as they are read, the objects of each sort, and what a question asks.
pub mod Words
pub mod Tests
pub mod Tables
pub mod Reach
pub mod Privileges
pub mod Successors
pub mod Changes
pub mod Surveys
pub mod Asking
