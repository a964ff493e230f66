-- What the inner contracts of this crate cite.
pub mod Alone
