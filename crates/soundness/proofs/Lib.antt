-- What the tests decide of one row and place; soundness from them; what stays fitting; and soundness kept along every list.
pub mod Fitting
pub mod Tying
pub mod Staying
pub mod Keeping
pub mod Tested
pub mod Refuted
