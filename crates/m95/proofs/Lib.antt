-- The laws of the public calls, and that their outcomes are unique.
pub mod Calling
pub mod Unique
pub mod Named
