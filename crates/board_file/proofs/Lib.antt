-- What is said once stays within its bounds.
pub mod Said
