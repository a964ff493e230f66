-- Which byte of a state is what.
pub mod StateBytes
