-- The law of the room for a page that is shown.
pub mod Named
