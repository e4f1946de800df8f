-- Values worked out by computing: the five lengths of document 01, and links that are read or refused.
use Prim.Native.Nat.{ℕ}
use mathlib.Core.Path.{◌≡◌, refl}
use mathlib.Core.List.{List, [], ◌∷◌, ◌++◌}
use mathlib.Core.Bool.{Bool, true, false}
use lib.ListN.{length, replicate}
use Rattle.std.specs.Prelude.{Some, None}
use Rattle.words.specs.Numbers.{number_at, bytes_of}
use Rattle.key.specs.Keys.{key_at, raw_key, well_key, clean, key_bytes}
use Rattle.key.specs.declared.Key.{Key}
use Rattle.value.specs.Values.{digest_at, digest_bytes, link_at, link_bytes, side_at, side_bytes, node_at, node_bytes, fingerprint_bytes, value_at, value_bytes}
use Rattle.value.specs.declared.Digest.{Digest}
use Rattle.value.specs.declared.Side.{Side}
use Rattle.value.specs.declared.Side.TheVariants.{Empty, Link}
use Rattle.value.specs.declared.Value.{Value}
use Rattle.value.specs.declared.Value.TheVariants as v

-- the key of the one bit 1, a digest, and the link of the two
bit : Key
bit = record { len = 1; w0 = 0x8000000000000000; w1 = 0; w2 = 0; w3 = 0 }

digest : Digest
digest = record { d0 = 0; d1 = 0; d2 = 0; d3 = 7 }

abbrev link : Bool → Side
link m = Link bit digest m

abbrev node : Side → Side → Value
node l r = v.Node (record { left = l; right = r })

-- the bytes of a node whose left side is a link with that length, first byte and mark, and whose right side is empty
abbrev written : ℕ → ℕ → ℕ → List ℕ
written len first mark =
    2 ∷ 1 ∷ 0 ∷ len ∷ first ∷ (replicate 31 0 ++ (replicate 31 0 ++ (7 ∷ mark ∷ 0 ∷ [])))

none_takes_1 : length (value_bytes v.None) ≡ 1
unfolding value_bytes
none_takes_1 = refl

fingerprint_takes_33 : length (value_bytes (v.Fingerprint digest)) ≡ 33
unfolding value_bytes fingerprint_bytes digest_bytes bytes_of
fingerprint_takes_33 = refl

bare_node_takes_3 : length (value_bytes (node Empty Empty)) ≡ 3
unfolding value_bytes node_bytes side_bytes
bare_node_takes_3 = refl

one_link_takes_70 : length (value_bytes (node (link true) Empty)) ≡ 70
unfolding value_bytes node_bytes side_bytes link_bytes key_bytes digest_bytes bytes_of
one_link_takes_70 = refl

two_links_take_137 : length (value_bytes (node (link true) (link false))) ≡ 137
unfolding value_bytes node_bytes side_bytes link_bytes key_bytes digest_bytes bytes_of
two_links_take_137 = refl

one_link_written : value_bytes (node (link true) Empty) ≡ written 1 128 1
unfolding value_bytes node_bytes side_bytes link_bytes key_bytes digest_bytes bytes_of bit digest
one_link_written = refl

one_link_read : value_at (written 1 128 1) 0 ≡ Some (node (link true) Empty, 70)
unfolding value_at node_at side_at link_at key_at raw_key well_key clean digest_at number_at bit digest
one_link_read = refl

mark_2_refused : value_at (written 1 128 2) 0 ≡ None
unfolding value_at node_at side_at link_at key_at raw_key well_key clean digest_at number_at
mark_2_refused = refl

root_link_refused : value_at (written 0 0 0) 0 ≡ None
unfolding value_at node_at side_at link_at key_at raw_key well_key clean digest_at number_at
root_link_refused = refl

bit_past_the_length_refused : value_at (written 1 192 0) 0 ≡ None
unfolding value_at node_at side_at link_at key_at raw_key well_key clean digest_at number_at
bit_past_the_length_refused = refl
