-- The ten entries: read from a log, written to a lent buffer.
pub mod Entries
