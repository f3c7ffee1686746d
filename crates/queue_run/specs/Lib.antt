-- What the program makes of a record, and what it prints.
pub mod Program
pub mod Output
