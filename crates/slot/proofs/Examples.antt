-- Bytes that are no slot, and one that is, computed.
use mathlib.Core.Path.{◌≡◌, refl}
use mathlib.Core.List.{◌∷◌, ◌++◌}
use Rattle.words.specs.Numbers.{number_at, bytes_of, zeros}
use Rattle.key.specs.Keys.{key_at, raw_key, well_key, clean, key_bytes, root_key}
use Rattle.value.specs.Values.{value_at, node_at, side_at, value_bytes, node_bytes, side_bytes, bare_node}
use Rattle.value.specs.declared.Value.TheVariants as v
use Rattle.slot.specs.Slots.{tree, slot_bytes, all_zero, slot_at}
use Rattle.slot.specs.declared.Slot.TheVariants.{Free, Full, Bad}

-- a free slot is all zero
free : slot_at (zeros 192) ≡ Free
unfolding slot_at all_zero zeros
free = refl

not_all_zero : slot_at (zeros 191 ++ 1 ∷ zeros 0) ≡ Bad
unfolding slot_at all_zero zeros
not_all_zero = refl

-- the root, with both sides empty
root : slot_at (1 ∷ zeros 34 ++ 2 ∷ zeros 156) ≡ Full tree root_key (v.Node bare_node)
unfolding slot_at all_zero zeros key_at raw_key well_key clean number_at value_at node_at side_at
root = refl

root_bytes : slot_bytes tree root_key (v.Node bare_node) ≡ 1 ∷ zeros 34 ++ 2 ∷ zeros 156
unfolding slot_bytes zeros key_bytes bytes_of value_bytes node_bytes side_bytes
root_bytes = refl

-- an origin of 3, and a byte behind the value
third_origin : slot_at (3 ∷ zeros 34 ++ 2 ∷ zeros 156) ≡ Bad
unfolding slot_at all_zero zeros
third_origin = refl

byte_behind : slot_at (1 ∷ zeros 34 ++ 2 ∷ zeros 155 ++ 1 ∷ zeros 0) ≡ Bad
unfolding slot_at all_zero zeros key_at raw_key well_key clean number_at value_at node_at side_at
byte_behind = refl
