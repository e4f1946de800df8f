-- A slot (document 01, "The trusted state"): origin (0 free, 1 tree, 2 deferred), key (34), value, zeros. A free slot is all zero.
use Rattle.std.specs.Prelude.{ℕ, ◌+◌, ◌-◌, List, [], ◌∷◌, ◌++◌, Bool, true, Option, Some, None, length, get_or, drop, ltb, eqb}
use Rattle.words.specs.Choice.{pick, both}
use Rattle.words.specs.Numbers.{zeros}
use Rattle.key.specs.Keys.{key_at, key_bytes}
use Rattle.key.specs.declared.Key.{Key}
use Rattle.value.specs.Values.{value_at, value_bytes}
use Rattle.value.specs.declared.Value.{Value}
use Rattle.slot.specs.declared.Slot.{Slot}
use Rattle.slot.specs.declared.Slot.TheVariants.{Free, Full, Bad}

abbrev pub slot_length : ℕ
slot_length = 192

-- the two origins of a record
abbrev pub tree : ℕ
tree = 1

abbrev pub deferred : ℕ
deferred = 2

-- ---- written

-- c, and zeros up to 192 bytes
abbrev pub filled : List ℕ → List ℕ
filled c = c ++ zeros (slot_length - length c)

unfoldable pub slot_bytes : ℕ → Key → Value → List ℕ
slot_bytes o k v = filled ((o ∷ []) ++ (key_bytes k ++ value_bytes v))

-- ---- read

unfoldable pub all_zero : List ℕ → Bool
all_zero [] = true
all_zero (x ∷ xs) = both (eqb x 0) (all_zero xs)

abbrev pub slot_end : ℕ → Key → List ℕ → Option (Value × ℕ) → Slot
slot_end o k s None = Bad
slot_end o k s (Some (v, n)) = pick (all_zero (drop (35 + n) s)) (Full o k v) Bad

abbrev pub slot_then : ℕ → List ℕ → Option Key → Slot
slot_then o s None = Bad
slot_then o s (Some k) = slot_end o k s (value_at s 35)

unfoldable pub slot_at : List ℕ → Slot
slot_at s =
    pick (eqb (get_or s 0 0) 0) (pick (all_zero (drop 0 s)) Free Bad)
    (pick (ltb deferred (get_or s 0 0)) Bad (slot_then (get_or s 0 0) s (key_at s 1)))
