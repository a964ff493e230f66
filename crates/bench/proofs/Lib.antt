-- The laws that the proofs of the functions cite, and those that none cites any more.
pub mod Printing
pub mod Named
