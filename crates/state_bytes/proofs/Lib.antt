-- What bytes that are a state have, and that each part of a state is read back.
pub mod Packing
pub mod Back
pub mod Named
