-- What every layer above speaks in: choices, numbers as bytes, bytes put in the place of others.
pub mod Choice
pub mod Numbers
pub mod Splices
