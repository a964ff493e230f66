-- That a judged state was a state, what the calls for C are worth, and that their outcomes are unique.
pub mod Leaving
pub mod Named
pub mod Promises
pub mod Unique
