-- What the program tells of.
pub mod Script
