-- Lengths and caches of two slots, well formed and not, computed.
use mathlib.Core.Path.{◌≡◌, refl}
use mathlib.Core.List.{List, ◌++◌}
use mathlib.Core.Bool.{true, false}
use Prim.Native.Nat.{ℕ}
use Rattle.words.specs.Numbers.{number_at, bytes_of, zeros}
use Rattle.key.specs.Keys.{key_at, raw_key, well_key, clean, key_bytes, key_eq, root_key, data_key}
use Rattle.value.specs.Values.{value_at, node_at, side_at, value_bytes, node_bytes, side_bytes, fits, bare_node}
use Rattle.value.specs.declared.Value.TheVariants as v
use Rattle.slot.specs.Slots.{tree, deferred, slot_bytes, all_zero, slot_at}
use Rattle.cache.specs.Caches.{well_length, held_in, held, well_record, well_at, well_from, well_cache}

-- 28: 2 to 64 slots
one_slot : well_length (zeros 192) ≡ false
unfolding well_length zeros
one_slot = refl

two_slots : well_length (zeros 384) ≡ true
unfolding well_length zeros
two_slots = refl

no_whole_slots : well_length (zeros 385) ≡ false
unfolding well_length zeros
no_whole_slots = refl

most_slots : well_length (zeros 12288) ≡ true
unfolding well_length zeros
most_slots = refl

too_many_slots : well_length (zeros 12480) ≡ false
unfolding well_length zeros
too_many_slots = refl

abbrev root : ℕ → List ℕ
root o = slot_bytes o root_key (v.Node bare_node)

-- 1: slot 0 is the root's, with origin 1
opened : well_cache (root tree ++ zeros 192) ≡ true
unfolding well_cache well_from well_at well_record held held_in fits key_eq slot_at slot_bytes all_zero key_at raw_key well_key clean key_bytes value_at node_at side_at value_bytes node_bytes side_bytes number_at bytes_of zeros
opened = refl

root_missing : well_cache (zeros 192 ++ root tree) ≡ false
unfolding well_cache well_from well_at well_record held held_in fits key_eq slot_at slot_bytes all_zero key_at raw_key well_key clean key_bytes value_at node_at side_at value_bytes node_bytes side_bytes number_at bytes_of zeros
root_missing = refl

root_deferred : well_cache (root deferred ++ zeros 192) ≡ false
unfolding well_cache well_from well_at well_record held held_in fits key_eq slot_at slot_bytes all_zero key_at raw_key well_key clean key_bytes value_at node_at side_at value_bytes node_bytes side_bytes number_at bytes_of zeros
root_deferred = refl

-- no key twice
root_twice : well_cache (root tree ++ root tree) ≡ false
unfolding well_cache well_from well_at well_record held held_in fits key_eq slot_at slot_bytes all_zero key_at raw_key well_key clean key_bytes value_at node_at side_at value_bytes node_bytes side_bytes number_at bytes_of zeros
root_twice = refl

-- the kind fits the key
data_record : well_cache (root tree ++ slot_bytes deferred (data_key 0 0 0 0) v.None) ≡ true
unfolding well_cache well_from well_at well_record held held_in fits key_eq slot_at slot_bytes all_zero key_at raw_key well_key clean key_bytes value_at node_at side_at value_bytes node_bytes side_bytes number_at bytes_of zeros
data_record = refl

node_under_data_key : well_cache (root tree ++ slot_bytes deferred (data_key 0 0 0 0) (v.Node bare_node)) ≡ false
unfolding well_cache well_from well_at well_record held held_in fits key_eq slot_at slot_bytes all_zero key_at raw_key well_key clean key_bytes value_at node_at side_at value_bytes node_bytes side_bytes number_at bytes_of zeros
node_under_data_key = refl
