-- The laws of the program: what is told of an own kind, the waiters on a line, the lines of a list of records, and that
-- there is room for them.
mod Taking
mod Spacing
mod Reporting
mod Room
