-- The listing of a log, and the room that it takes.
pub mod Listings
pub mod Rooms
