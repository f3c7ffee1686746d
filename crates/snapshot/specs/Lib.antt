-- The file of a policy on a card; what the writer and the reader answer; how the two go.
pub mod Card
pub mod Answers
pub mod Writing
pub mod Loading
pub mod Trials
