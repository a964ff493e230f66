-- What it means that a text was put at a place.
pub mod Put
