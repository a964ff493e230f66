-- The laws of reading a record, of the short ways, and of running.
pub mod Reading
pub mod Running
pub mod Short
pub mod Named
