-- Places in a log.
pub mod Places
