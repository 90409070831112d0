-- How the lines of a text and the words of a line follow one another, and the numbers of a statement.
pub mod Begins
pub mod Parted
pub mod Row
pub mod Steps
