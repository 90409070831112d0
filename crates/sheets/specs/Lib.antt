-- What `sheets` means, file by file.
pub mod Figures
pub mod Runs
pub mod Says
