-- How the judge's code asks its checks and puts its answer together, and what it tells of a refusal for own gain.
pub mod Kind
pub mod Holding
pub mod Answering
pub mod Telling
