-- Epochs, times and the deferred message.
pub mod Messages
