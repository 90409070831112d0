-- Protected lines as document 01 has them: the line key, the two MACs of lines, sealed data lines, and the key stream
-- of Suspend.
pub mod Lines
pub mod Stream
