-- The fields that every record begins with, and records one after the other in lent bytes.
pub mod Fields
pub mod Reading
