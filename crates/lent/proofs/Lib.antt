-- The laws of what is lent, and of the calls that run nothing.
pub mod Lending
pub mod Named
