-- What the inner contracts of this crate cite.
pub mod Form
pub mod Quick
