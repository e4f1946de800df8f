-- An entry as fields of a fixed form: five numbers (tag, s, p, epoch, time), the 34 bytes of a key, and 137 bytes that are a value and then zeros.
use Rattle.std.specs.Prelude.{ℕ, Option, Some, None, List, [], ◌∷◌, get_or, drop, leb, eqb}
use Rattle.words.specs.Choice.{pick}
use Rattle.words.specs.Numbers.{zeros}
use Rattle.words.specs.Splices.{splice}
use Rattle.key.specs.Keys.{root_key, key_at}
use Rattle.key.specs.declared.Key.{Key}
use Rattle.value.specs.Values.{value_at, value_bytes}
use Rattle.value.specs.declared.Value.{Value}
use Rattle.value.specs.declared.Value.TheVariants as v
use Rattle.slot.specs.Slots.{all_zero}
use Rattle.entry.specs.declared.Entry.{Entry}
use Rattle.entry.specs.declared.Entry.TheVariants.{AddTree, AddDeferred, EvictTree, EvictDeferred, EvictTreeDeferred, Get, Absent, Put, Advance, Close}
use Rattle.fields.specs.declared.Fields.{Fields}

abbrev pub value_length : ℕ
value_length = 137

-- ---- taken apart

-- the fields of an entry that has no epoch and no time
abbrev pub undated : ℕ → ℕ → ℕ → Key → Value → Fields
undated t s p k x = record { tag = t; s = s; p = p; epoch = record { 0 = 0 }; time = record { 0 = 0 }; key = k; value = x }

-- what an entry does not have is 0, the root key, the value none
unfoldable pub fields_of : Entry → Fields
fields_of (AddTree s p k x) = undated 1 s p k x
fields_of (AddDeferred s e t k x) = record { tag = 2; s = s; p = 0; epoch = e; time = t; key = k; value = x }
fields_of (EvictTree s p) = undated 3 s p root_key v.None
fields_of (EvictDeferred s) = undated 4 s 0 root_key v.None
fields_of (EvictTreeDeferred s p) = undated 5 s p root_key v.None
fields_of (Get s k x) = undated 6 s 0 k x
fields_of (Absent p k) = undated 7 0 p k v.None
fields_of (Put s k x) = undated 8 s 0 k x
fields_of Advance = undated 9 0 0 root_key v.None
fields_of Close = undated 10 0 0 root_key v.None

abbrev pub numbers_of : Fields → List ℕ
numbers_of f = f.tag ∷ f.s ∷ f.p ∷ f.epoch.0 ∷ f.time.0 ∷ []

-- a value, and then zeros
unfoldable pub value_field : Value → List ℕ
value_field x = splice (zeros value_length) 0 (value_bytes x)

-- ---- put together

-- by its tag the entry of these fields; a field that it does not have is not looked at
unfoldable pub entry_with : Fields → Option Entry
entry_with f =
    pick (eqb f.tag 1) (Some (AddTree f.s f.p f.key f.value))
    (pick (eqb f.tag 2) (Some (AddDeferred f.s f.epoch f.time f.key f.value))
    (pick (eqb f.tag 3) (Some (EvictTree f.s f.p))
    (pick (eqb f.tag 4) (Some (EvictDeferred f.s))
    (pick (eqb f.tag 5) (Some (EvictTreeDeferred f.s f.p))
    (pick (eqb f.tag 6) (Some (Get f.s f.key f.value))
    (pick (eqb f.tag 7) (Some (Absent f.p f.key))
    (pick (eqb f.tag 8) (Some (Put f.s f.key f.value))
    (pick (eqb f.tag 9) (Some Advance)
    (pick (eqb f.tag 10) (Some Close) None)))))))))

abbrev pub fields_with : List ℕ → Key → Value → Fields
fields_with n k x =
    record { tag = get_or n 0 0; s = get_or n 1 0; p = get_or n 2 0; epoch = record { 0 = get_or n 3 0 }; time = record { 0 = get_or n 4 0 }; key = k; value = x }

abbrev pub value_then : List ℕ → List ℕ → Key → Option (Value × ℕ) → Option Entry
value_then n x k None = None
value_then n x k (Some (y, m)) = pick (all_zero (drop m x)) (entry_with (fields_with n k y)) None

abbrev pub key_then : List ℕ → List ℕ → Option Key → Option Entry
key_then n x None = None
key_then n x (Some k) = value_then n x k (value_at x 0)

-- what five numbers, the bytes of a key and those of a value are: the tag is a byte, a slot two bytes
unfoldable pub entry_from : List ℕ → List ℕ → List ℕ → Option Entry
entry_from n k x =
    pick (leb 256 (get_or n 0 0)) None (pick (leb 65536 (get_or n 1 0)) None (pick (leb 65536 (get_or n 2 0)) None (key_then n x (key_at k 0))))
