-- The laws that the proofs of the functions cite.
pub mod Line
pub mod Playing
pub mod Named
