-- The laws of the crate, each file under its subject. A caller cites them, and opens no definition of specs/.
pub mod Tried
pub mod Steps
pub mod Records
pub mod Giving
