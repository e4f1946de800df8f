-- The trusted state, and opening.
pub mod States
