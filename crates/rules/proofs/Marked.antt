-- Document 01, "Marked examples": M1 to M12 as one table, and one proof that the definitions yield it, from bytes to bytes. Digests and
-- tags stay symbols. Assumes nothing.
use Prim.Native.Nat.{ℕ, ◌-◌, ◌^◌}
use mathlib.Core.Path.{◌≡◌, refl}
use mathlib.Core.List.{List, [], ◌∷◌, ◌++◌}
use mathlib.Core.Bool.{Bool, true, false}
use lib.Dec.{eqb}
use Rattle.words.specs.Choice.{both}
use Rattle.words.specs.Numbers.{number_at, bytes_of, zeros}
use Rattle.words.specs.Splices.{splice}
use Rattle.key.specs.Keys.{data_key, clean, well_key, key_bytes, raw_key, key_at, data_at, data_bytes, key_eq, same_top, above, bit_at, toward}
use Rattle.key.specs.declared.Key.{Key}
use Rattle.value.specs.Values.{bare_node, side_of, digest_at, digest_bytes, digest_eq, link_bytes, side_bytes, fingerprint_bytes, node_bytes, value_bytes, link_at, side_at, node_at, fingerprint_at, value_at, fits, is_first, value_eq}
use Rattle.value.specs.declared.Digest.{Digest}
use Rattle.value.specs.declared.Side.{Side}
use Rattle.value.specs.declared.Side.TheVariants.{Empty, Link}
use Rattle.value.specs.declared.Value.{Value}
use Rattle.value.specs.declared.Value.TheVariants as v
use Rattle.entry.specs.Entries.{add_tree_at, add_deferred_at, pair_of_slots, evict_deferred_at, record_at, absent_at, empty_at, entry_of, head_of, read_entry, entry_tag, entry_body, entry_bytes}
use Rattle.entry.specs.declared.Entry.{Entry}
use Rattle.entry.specs.declared.Entry.TheVariants.{AddTree, AddDeferred, EvictTree, EvictDeferred, EvictTreeDeferred, Get, Absent, Put, Advance, Close}
use Rattle.hash.specs.Hashes.{set_key, digest_of}
use Rattle.sha256.specs.Sha256.{K, words, next, schedule, round, rounds, compress, after, padded, hash_of, sha256}
use Rattle.slot.specs.Slots.{slot_bytes, all_zero, slot_at}
use Rattle.slot.specs.declared.Slot.{Slot}
use Rattle.slot.specs.declared.Slot.TheVariants as sl
use Rattle.cache.specs.Caches.{slot_in, well_length, held_in, held, well_record, well_at, well_from, well_cache, opened_cache}
use Rattle.state.specs.States.{well_state, added_current, added_old, evicted_state, evict_message, evicted, advanced_state, closed_state, fresh_state}
use Rattle.state.specs.declared.State.{State}
use Rattle.rules.specs.Adds.{linked, add_link, add_node, add_under, add_tree, named_epoch, add_into, add_deferred}
use Rattle.rules.specs.Evicts.{unlinked, evict_link, evict_node, evict_under, evict_by, evict_deferred}
use Rattle.rules.specs.Answers.{get, absent, put}
use Rattle.rules.specs.Epochs.{advance, close}
use Rattle.rules.specs.Steps.{Step, entry_step, step_well, step}

-- ---- the keys and values of the examples

abbrev ones : ℕ
ones = 2 ^ 64 - 1

-- Z is the data key of 256 zeros, B of ones, C is 1 and then 255 zeros; the node key `1`
abbrev Z : Key
Z = data_key 0 0 0 0

abbrev B : Key
B = data_key ones ones ones ones

abbrev C : Key
C = data_key (2 ^ 63) 0 0 0

abbrev one : Key
one = record { len = 1; w0 = 2 ^ 63; w1 = 0; w2 = 0; w3 = 0 }

abbrev F : Value
F = v.Fingerprint (record { d0 = 7; d1 = 0; d2 = 0; d3 = 0 })

abbrev bare : Value
bare = v.Node bare_node

-- ---- a history from fresh, four slots: entries written as bytes and stepped one after the other

pub record End : Type 0 where
  pub verdicts : List ℕ
  pub state : State
  pub bytes : List ℕ

abbrev ended : Step → List ℕ → End
ended r vs = record { verdicts = vs ++ (r.result.verdict ∷ []); state = r.result.state; bytes = r.bytes }

unfoldable pub run : List Entry → End → End
run [] e = e
run (x ∷ xs) e = run xs (ended (step (entry_bytes x) e.state e.bytes) e.verdicts)

unfoldable pub fresh : End
fresh = record { verdicts = []; state = fresh_state (zeros 16); bytes = opened_cache 3 }

-- ---- what an example may say besides its verdicts

abbrev side_links : Key → Side → Bool
side_links k Empty = false
side_links k (Link lk d m) = key_eq lk k

abbrev value_links : Bool → Key → Value → Bool
value_links right k v.None = false
value_links right k (v.Fingerprint d) = false
value_links right k (v.Node n) = side_links k (side_of n right)

abbrev slot_links : Bool → Key → Slot → Bool
slot_links right k sl.Free = false
slot_links right k sl.Bad = false
slot_links right k (sl.Full o j x) = value_links right k x

-- slot i's left side links k, and its right side
abbrev left_links : ℕ → Key → End → Bool
left_links i k e = slot_links false k (slot_in e.bytes i)

abbrev right_links : ℕ → Key → End → Bool
right_links i k e = slot_links true k (slot_in e.bytes i)

abbrev nothing : End → Bool
nothing e = true

-- ---- the table

pub record Row : Type 0 where
  pub told : List Entry
  pub verdicts : List ℕ
  pub shown : End → Bool

abbrev row : List Entry → List ℕ → (End → Bool) → Row
row xs vs f = record { told = xs; verdicts = vs; shown = f }

abbrev M2 : List Entry
M2 = AddTree 1 0 Z v.None ∷ []

abbrev M6 : List Entry
M6 = M2 ++ (EvictDeferred 1 ∷ EvictTreeDeferred 1 0 ∷ [])

abbrev defer : ℕ → ℕ → Entry
defer e t = AddDeferred 1 (record { 0 = e }) (record { 0 = t }) Z v.None

unfoldable pub marked : List Row
marked =
    -- M1 absent Z at slot 0
    row (Absent 0 Z ∷ []) (0 ∷ []) nothing ∷
    -- M2 add Z from tree, slot 1, none: root's left links Z
    row M2 (0 ∷ []) (left_links 0 Z) ∷
    -- M3 the same with a fingerprint
    row (AddTree 1 0 Z F ∷ []) (15 ∷ []) nothing ∷
    -- M4 after M2, Z into slot 2
    row (M2 ++ (AddTree 2 0 Z v.None ∷ [])) (0 ∷ 7 ∷ []) nothing ∷
    -- M5 after M2, put F, get F; get none
    row (M2 ++ (Put 1 Z F ∷ Get 1 Z F ∷ Get 1 Z v.None ∷ [])) (0 ∷ 0 ∷ 0 ∷ 25 ∷ []) nothing ∷
    -- M6 after M2, entry 4; entry 5: clock 1
    row M6 (0 ∷ 16 ∷ 0 ∷ []) (λ e. eqb e.state.clock.0 1) ∷
    -- M7 after M6, Z from tree
    row (M6 ++ (AddTree 1 0 Z v.None ∷ [])) (0 ∷ 16 ∷ 0 ∷ 13 ∷ []) nothing ∷
    -- M8 after M6, deferred add with time 2; time 0; epoch 2; right message
    row (M6 ++ (defer 1 2 ∷ defer 1 0 ∷ defer 2 1 ∷ defer 1 1 ∷ [])) (0 ∷ 16 ∷ 0 ∷ 19 ∷ 19 ∷ 18 ∷ 0 ∷ []) nothing ∷
    -- M9 after M6, advance, close
    row (M6 ++ (Advance ∷ Close ∷ [])) (0 ∷ 16 ∷ 0 ∷ 0 ∷ 23 ∷ []) nothing ∷
    -- M10 B from tree, then C under the root; node `1` under the root, its right side links B; then C under it, on its left
    row (AddTree 1 0 B v.None ∷ AddTree 2 0 C v.None ∷ AddTree 2 0 one bare ∷ AddTree 3 2 C v.None ∷ []) (0 ∷ 12 ∷ 0 ∷ 0 ∷ [])
    (λ e. both (right_links 2 B e) (left_links 2 C e)) ∷
    -- M11 evict slot 0, by each of the three
    row (EvictTree 0 0 ∷ EvictDeferred 0 ∷ EvictTreeDeferred 0 0 ∷ []) (17 ∷ 17 ∷ 17 ∷ []) nothing ∷
    -- M12 advance twice
    row (Advance ∷ Advance ∷ []) (0 ∷ 22 ∷ []) nothing ∷ []

-- ---- the proof

unfoldable pub same_numbers : List ℕ → List ℕ → Bool
same_numbers [] [] = true
same_numbers [] (y ∷ ys) = false
same_numbers (x ∷ xs) [] = false
same_numbers (x ∷ xs) (y ∷ ys) = both (eqb x y) (same_numbers xs ys)

abbrev agrees : Row → End → Bool
agrees r e = both (same_numbers e.verdicts r.verdicts) (r.shown e)

unfoldable pub all_hold : List Row → Bool
all_hold [] = true
all_hold (r ∷ rs) = both (agrees r (run r.told fresh)) (all_hold rs)

pub marked_hold : all_hold marked ≡ true
unfolding marked all_hold same_numbers run fresh number_at bytes_of zeros splice clean well_key key_bytes raw_key key_at data_at data_bytes key_eq same_top above bit_at toward digest_at digest_bytes digest_eq link_bytes side_bytes fingerprint_bytes node_bytes value_bytes link_at side_at node_at fingerprint_at value_at fits is_first value_eq add_tree_at add_deferred_at pair_of_slots evict_deferred_at record_at absent_at empty_at entry_of head_of read_entry entry_tag entry_body entry_bytes set_key slot_bytes all_zero slot_at well_length held_in held well_record well_at well_from well_cache opened_cache well_state added_current added_old evicted_state evict_message evicted advanced_state closed_state fresh_state linked add_link add_node add_under add_tree named_epoch add_into add_deferred unlinked evict_link evict_node evict_under evict_by evict_deferred get absent put advance close entry_step step_well step
marked_hold = refl

-- ---- the digest in a new link is that of the value as stored, the old link put in: M10's node, with the digests worked out

abbrev side_digest : Side → Digest
side_digest Empty = record { d0 = 0; d1 = 0; d2 = 0; d3 = 0 }
side_digest (Link k d m) = d

abbrev right_digest : Value → Digest
right_digest v.None = side_digest Empty
right_digest (v.Fingerprint d) = side_digest Empty
right_digest (v.Node n) = side_digest n.right

abbrev slot_value : Slot → Value
slot_value sl.Free = v.None
slot_value sl.Bad = v.None
slot_value (sl.Full o j x) = x

abbrev split : List ℕ
split = (run (AddTree 1 0 B v.None ∷ AddTree 2 0 one bare ∷ []) fresh).bytes

pub stored_digest : right_digest (slot_value (slot_in split 0)) ≡ digest_of (slot_value (slot_in split 2))
unfolding run fresh number_at bytes_of zeros splice clean well_key key_bytes raw_key key_at data_at data_bytes key_eq same_top above bit_at toward digest_at digest_bytes digest_eq link_bytes side_bytes fingerprint_bytes node_bytes value_bytes link_at side_at node_at fingerprint_at value_at fits is_first value_eq add_tree_at add_deferred_at pair_of_slots evict_deferred_at record_at absent_at empty_at entry_of head_of read_entry entry_tag entry_body entry_bytes set_key slot_bytes all_zero slot_at well_length held_in held well_record well_at well_from well_cache opened_cache well_state added_current added_old evicted_state evict_message evicted advanced_state closed_state fresh_state linked add_link add_node add_under add_tree named_epoch add_into add_deferred unlinked evict_link evict_node evict_under evict_by evict_deferred get absent put advance close entry_step step_well step digest_of sha256 hash_of after padded words next schedule round rounds compress K
stored_digest = refl
