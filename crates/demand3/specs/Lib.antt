-- What `demand3` means, file by file.
pub mod Statement
