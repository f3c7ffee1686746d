-- The laws by which the judge's code follows the rules, each file under its subject: a stranger by the lent sorts, what
-- the sender may do, what TAKE and DISMISS leave, what is asked of two kinds, the order of the checks, and that what is told
-- of own gain is one thing.
pub mod Sorting
pub mod Entitling
pub mod Leaving
pub mod ByKind
pub mod Ordered
pub mod Telling
