-- The laws of the judge's rules, each file under its subject.
pub mod Answered
pub mod Checking
pub mod Passing
pub mod Giving
pub mod Table
pub mod Fitting
pub mod Reading
pub mod TwoWordings
pub mod Steps
pub mod Origins
pub mod Staying
pub mod Readings
pub mod Verdicts
pub mod Numbered
pub mod Encoding
pub mod Limits
pub mod Bounded
