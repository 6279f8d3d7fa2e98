-- Frames: digits, bytes, numbers, lines; then what the code makes of a line.
pub mod Frame
-- What functions promise each other.
pub mod inner
