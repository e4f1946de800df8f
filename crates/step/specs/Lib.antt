-- What a step gives, as the rules tell it.
pub mod Progress
