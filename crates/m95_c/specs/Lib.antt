-- What each call for C leaves.
pub mod Left
