-- Turns at one radio: the line and what each event does to it; the record that stores it; what holds of all records and
-- lists of events; how the code puts a record together.
pub mod Line
pub mod Stored
pub mod Wait
pub mod Claims
pub mod Rows
