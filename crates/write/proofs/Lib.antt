-- The laws of waiting.
pub mod Passing
pub mod Named
