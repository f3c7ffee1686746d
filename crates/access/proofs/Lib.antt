-- The refusals of a USE as a table, and that 0 is being permitted.
pub mod UseTable
