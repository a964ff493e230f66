-- The laws of C's rise that the documents have named, and one of C's fall.
pub mod Named
