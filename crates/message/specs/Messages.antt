-- A deferred message as bytes: epoch (8), time (8), key (34), value.
use Rattle.std.specs.Prelude.{ℕ, ◌^◌, ◌<◌, ◌≡◌, true, List, ◌++◌}
use Rattle.words.specs.Numbers.{bytes_of}
use Rattle.key.specs.Keys.{key_bytes, well_key, KeyFits}
use Rattle.value.specs.Values.{value_bytes, well_value, ValueFits}
use Rattle.message.specs.declared.Message.{Message}

unfoldable pub message_bytes : Message → List ℕ
message_bytes m = bytes_of 8 m.epoch.0 ++ (bytes_of 8 m.time.0 ++ (key_bytes m.key ++ value_bytes m.value))

-- a message whose key and value are well formed, and whose numbers fit their fields, as in every message of the code
pub record WellMessage (m : Message) : Type 0 where
  pub epoch : m.epoch.0 < 2 ^ 64
  pub time : m.time.0 < 2 ^ 64
  pub key_fits : KeyFits m.key
  pub key : well_key m.key ≡ true
  pub value_fits : ValueFits m.value
  pub value : well_value m.value ≡ true
