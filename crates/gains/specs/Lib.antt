-- What a request gives: the first permission that it gives a user, what is asked of the named objects alone to know whether it gives anything,
-- and what the search for a permission goes by.
pub mod Giving
pub mod Lacking
pub mod Lending
pub mod Searching
