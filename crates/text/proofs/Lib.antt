-- The laws that the proofs of the functions cite, and one that none cites any more.
pub mod Putting
pub mod Named
