-- The cache as slots of 192 bytes; 28, and its part of 1 (document 01, "The trusted state").
use Rattle.std.specs.Prelude.{ℕ, zero, suc, ◌+◌, ◌*◌, ◌/◌, ◌%◌, List, ◌++◌, Bool, true, false, length, take, drop, leb, ltb, eqb}
use Rattle.words.specs.Choice.{pick, both}
use Rattle.words.specs.Numbers.{zeros}
use Rattle.words.specs.Splices.{part, splice}
use Rattle.key.specs.Keys.{key_eq, root_key}
use Rattle.key.specs.declared.Key.{Key}
use Rattle.value.specs.Values.{fits, bare_node}
use Rattle.value.specs.declared.Value.{Value}
use Rattle.value.specs.declared.Value.TheVariants as v
use Rattle.slot.specs.Slots.{slot_length, slot_at, slot_bytes, tree}
use Rattle.slot.specs.declared.Slot.{Slot}
use Rattle.slot.specs.declared.Slot.TheVariants as sl

-- 28: 2 to 64 slots, 384 to 12,288 bytes, a multiple of 192
unfoldable pub well_length : List ℕ → Bool
well_length c = both (both (leb 384 (length c)) (leb (length c) 12288)) (eqb (length c % slot_length) 0)

abbrev pub count : List ℕ → ℕ
count c = length c / slot_length

-- slot i
abbrev pub slot_in : List ℕ → ℕ → Slot
slot_in c i = slot_at (part c (i * slot_length) slot_length)

-- slot i with a record in it, and slot i free
abbrev pub put_slot : List ℕ → ℕ → ℕ → Key → Value → List ℕ
put_slot c i o k x = splice c (i * slot_length) (slot_bytes o k x)

abbrev pub free_slot : List ℕ → ℕ → List ℕ
free_slot c i = splice c (i * slot_length) (zeros slot_length)

-- ---- 7: whether a slot holds a key

abbrev pub slot_has : Slot → Key → Bool
slot_has sl.Free k = false
slot_has sl.Bad k = false
slot_has (sl.Full o j v) k = key_eq j k

-- one of the first n slots
unfoldable pub held_in : ℕ → List ℕ → Key → Bool
held_in zero c k = false
held_in (suc n) c k = pick (slot_has (slot_at (take slot_length c)) k) true (held_in n (drop slot_length c) k)

unfoldable pub held : List ℕ → Key → Bool
held c k = held_in (count c) c k

-- ---- 1: every slot as said, slot 0 the root's with origin 1, no key twice

-- the kind fits the key, no slot before i holds the key, and slot 0 is the root's
unfoldable pub well_record : List ℕ → ℕ → ℕ → Key → Value → Bool
well_record c i o k x =
    pick (fits k x)
    (pick (held (take (i * slot_length) c) k) false (pick (eqb i 0) (both (eqb o tree) (key_eq k root_key)) true))
    false

abbrev pub well_slot : List ℕ → ℕ → Slot → Bool
well_slot c i sl.Free = ltb 0 i
well_slot c i sl.Bad = false
well_slot c i (sl.Full o k x) = well_record c i o k x

unfoldable pub well_at : List ℕ → ℕ → Bool
well_at c i = well_slot c i (slot_in c i)

-- n slots from slot i on
unfoldable pub well_from : ℕ → ℕ → List ℕ → Bool
well_from zero i c = true
well_from (suc n) i c = pick (well_at c i) (well_from n (i + 1) c) false

unfoldable pub well_cache : List ℕ → Bool
well_cache c = well_from (count c) 0 c

-- ---- opened: the root in slot 0 with both sides empty, zeros behind

unfoldable pub opened_cache : ℕ → List ℕ
opened_cache n = slot_bytes tree root_key (v.Node bare_node) ++ zeros (n * slot_length)
