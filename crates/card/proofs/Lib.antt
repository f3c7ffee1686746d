-- The laws of the program: what was read and printed, as a part of a buffer, what is saved, what is loaded.
mod Showing
mod Saving
mod Loading
