-- The laws of a run's turns.
pub mod Laws
