-- The laws of the events and of the soundness test.
pub mod Clauses
pub mod Events
pub mod Named
