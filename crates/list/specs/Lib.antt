-- A list of requests and how it is handed in, the lines of authority in it, demand 3 in two wordings, and what the program prints.
pub mod Runs
pub mod Parts
pub mod Lines
pub mod Telling
pub mod Demand
pub mod Descent
pub mod Accountable
pub mod Report
pub mod Filling
