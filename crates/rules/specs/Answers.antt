-- Entries 6 (get: checks 4 6 8 9 25), 7 (absent: 4 6 8 10 26) and 8 (put: 4 6 8 9).
use Rattle.std.specs.Prelude.{ℕ, List, leb}
use Rattle.words.specs.Choice.{pick}
use Rattle.verdict.specs.Verdicts.{accepted, not_well, no_slot, slot_empty, wrong_kind, other_key, no_ancestor, value_differs, absence_not_shown}
use Rattle.key.specs.Keys.{key_eq, above, toward}
use Rattle.key.specs.declared.Key.{Key}
use Rattle.value.specs.Values.{is_node, value_eq, side_of}
use Rattle.value.specs.declared.Side.{Side}
use Rattle.value.specs.declared.Side.TheVariants.{Empty, Link}
use Rattle.value.specs.declared.Value.{Value}
use Rattle.value.specs.declared.Value.TheVariants as v
use Rattle.slot.specs.declared.Slot.{Slot}
use Rattle.slot.specs.declared.Slot.TheVariants as sl
use Rattle.cache.specs.Caches.{count, slot_in, put_slot}
use Rattle.state.specs.declared.State.{State}
use Rattle.rules.specs.Outcomes.{Outcome, refuses, accepts}

-- ---- 6: s, key, value. The slot's value equals the given one. The verdict; nothing else comes of it

abbrev pub get_slot : Key → Value → Slot → ℕ
get_slot k x sl.Free = slot_empty
get_slot k x sl.Bad = not_well
get_slot k x (sl.Full o j y) =
    pick (is_node x) wrong_kind (pick (is_node y) wrong_kind (pick (key_eq j k) (pick (value_eq y x) accepted value_differs) other_key))

unfoldable pub get : ℕ → Key → Value → List ℕ → ℕ
get s k x c = pick (leb (count c) s) no_slot (get_slot k x (slot_in c s))

-- ---- 7: p, key. p's side toward the key is empty, or its link's key is neither our key nor an ancestor of it. The verdict, as in 6

abbrev pub absent_side : Key → Side → ℕ
absent_side k Empty = accepted
absent_side k (Link lk ld lm) = pick (key_eq lk k) absence_not_shown (pick (above lk k) absence_not_shown accepted)

abbrev pub absent_node : Key → Key → Value → ℕ
absent_node pk k v.None = wrong_kind
absent_node pk k (v.Fingerprint d) = wrong_kind
absent_node pk k (v.Node n) = pick (above pk k) (absent_side k (side_of n (toward pk k))) no_ancestor

abbrev pub absent_slot : Key → Slot → ℕ
absent_slot k sl.Free = slot_empty
absent_slot k sl.Bad = not_well
absent_slot k (sl.Full o pk pv) = absent_node pk k pv

unfoldable pub absent : ℕ → Key → List ℕ → ℕ
absent p k c = pick (leb (count c) p) no_slot (absent_slot k (slot_in c p))

-- ---- 8: s, key, value. The value is replaced

abbrev pub put_into : ℕ → Key → Value → State → List ℕ → Slot → Outcome
put_into s k x st c sl.Free = refuses slot_empty st c
put_into s k x st c sl.Bad = refuses not_well st c
put_into s k x st c (sl.Full o j y) =
    pick (is_node x) (refuses wrong_kind st c)
    (pick (is_node y) (refuses wrong_kind st c)
    (pick (key_eq j k) (accepts st (put_slot c s o k x)) (refuses other_key st c)))

unfoldable pub put : ℕ → Key → Value → State → List ℕ → Outcome
put s k x st c = pick (leb (count c) s) (refuses no_slot st c) (put_into s k x st c (slot_in c s))
