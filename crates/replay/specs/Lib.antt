-- How long a stored vector is.
pub mod Vector
