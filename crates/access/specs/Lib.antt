-- What the judge says to a USE that comes as numbers.
pub mod Using
