-- What holds of every board that is read from a text.
pub mod Boards
