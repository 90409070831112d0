-- What the numbers of a board file say, and the numbers of its errors.
pub mod Digits
pub mod Errors
pub mod Numbers
