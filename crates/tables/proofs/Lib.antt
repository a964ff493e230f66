-- The laws of looking up.
pub mod Looks
