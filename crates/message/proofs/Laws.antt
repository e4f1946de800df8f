-- A message's bytes: at most 187, and they determine epoch, time, key and value. Assumes nothing.
use Prim.Native.Nat.{ℕ, ◌+◌, ◌≤◌}
use mathlib.Core.Path.{◌≡◌, refl, ap, sym, ◌∙◌}
use mathlib.Core.List.{List, [], ◌++◌, append_assoc}
use native.Mathlib.Omega.{arith}
use lib.ListN.{length, length-append}
use Rattle.std.specs.Prelude.{Some}
use Rattle.words.specs.Numbers.{number_at, bytes_of}
use Rattle.words.proofs.Laws.{bytes_length, number_at_lem}
use Rattle.key.specs.Keys.{key_at, key_bytes}
use Rattle.key.proofs.Laws.{key_back, key_length}
use Rattle.value.specs.Values.{value_at, value_bytes}
use Rattle.value.proofs.Laws.{value_length_lem, read_alike}
use Rattle.value.proofs.Back.{value_back}
use Rattle.message.specs.Messages.{message_bytes, WellMessage}
use Rattle.message.specs.declared.Message.{Message}

-- epoch, time and key take 50 bytes
pub message_length : (m : Message) → length (message_bytes m) ≡ 50 + length (value_bytes m.value)
unfolding message_bytes
message_length m = simp (length-append, bytes_length, key_length) (omega arith)

pub message_short : (m : Message) → length (message_bytes m) ≤ 187
message_short m = omega (arith, message_length m, value_length_lem m.value)

-- a message's parts stand at their places, whatever follows
module _ (m : Message) (w : WellMessage m) (r : List ℕ) where
  pub epoch_back : number_at 8 (message_bytes m ++ r) 0 ≡ m.epoch.0
  unfolding message_bytes
  epoch_back =
      ap (λ (s : List ℕ). number_at 8 s 0) (simp append_assoc)
      ∙ number_at_lem 8 m.epoch.0 0 [] (bytes_of 8 m.time.0 ++ (key_bytes m.key ++ (value_bytes m.value ++ r))) refl w.epoch

  pub time_back : number_at 8 (message_bytes m ++ r) 8 ≡ m.time.0
  unfolding message_bytes
  time_back =
      ap (λ (s : List ℕ). number_at 8 s 8) (simp append_assoc)
      ∙ number_at_lem 8 m.time.0 8 (bytes_of 8 m.epoch.0) (key_bytes m.key ++ (value_bytes m.value ++ r)) (bytes_length 8 m.epoch.0) w.time

  pub message_key_back : key_at (message_bytes m ++ r) 16 ≡ Some m.key
  unfolding message_bytes
  message_key_back =
      ap (λ (s : List ℕ). key_at s 16) (simp append_assoc)
      ∙ key_back m.key w.key_fits 16 (bytes_of 8 m.epoch.0 ++ bytes_of 8 m.time.0) (value_bytes m.value ++ r) (simp (length-append, bytes_length)) w.key

  pub message_value_back : value_at (message_bytes m ++ r) 50 ≡ Some (m.value, length (value_bytes m.value))
  unfolding message_bytes
  message_value_back =
      ap (λ (s : List ℕ). value_at s 50) (simp append_assoc)
      ∙ value_back 50 (bytes_of 8 m.epoch.0 ++ (bytes_of 8 m.time.0 ++ key_bytes m.key)) r (simp (length-append, bytes_length, key_length)) m.value w.value_fits w.value

message_ext : (a b : Message) → a.epoch.0 ≡ b.epoch.0 → a.time.0 ≡ b.time.0 → a.key ≡ b.key → a.value ≡ b.value → a ≡ b
message_ext a b p q r s = λ i. record { epoch = record { 0 = p i }; time = record { 0 = q i }; key = r i; value = s i }

-- two well messages with the same bytes are the same, whatever follows them
pub message_inj : (a b : Message) → WellMessage a → WellMessage b → message_bytes a ≡ message_bytes b → a ≡ b
message_inj a b wa wb e =
    let s : message_bytes a ++ [] ≡ message_bytes b ++ [] = ap (λ (l : List ℕ). l ++ []) e in
    let k : Some a.key ≡ Some b.key = sym (message_key_back a wa []) ∙ ap (λ (l : List ℕ). key_at l 16) s ∙ message_key_back b wb [] in
    let x = read_alike a.value b.value _ _ (sym (message_value_back a wa []) ∙ ap (λ (l : List ℕ). value_at l 50) s ∙ message_value_back b wb []) in
    message_ext a b
    (sym (epoch_back a wa []) ∙ ap (λ (l : List ℕ). number_at 8 l 0) s ∙ epoch_back b wb [])
    (sym (time_back a wa []) ∙ ap (λ (l : List ℕ). number_at 8 l 8) s ∙ time_back b wb [])
    (cc) x.0
