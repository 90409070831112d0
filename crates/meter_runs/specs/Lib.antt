-- What a room holds before anything is laid into it.
pub mod Rooms
