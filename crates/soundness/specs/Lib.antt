-- What a reader of the crate must believe: which policies are sound and that they stay so, and what is tested of each table.
pub mod Soundness
pub mod Masked
pub mod Tested
pub mod Faults
