-- The laws that tie masks and shifts to arithmetic.
pub mod Masks
