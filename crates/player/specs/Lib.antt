-- What is said of a chip's file, what holds while a trace is played, play's last line, and what it says of a chip's room.
pub mod File
pub mod Playing
pub mod Room
pub mod Summary
