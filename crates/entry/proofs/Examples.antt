-- Entries read by computing: the log of document 01's listing, heads cut and whole, and bodies one byte too long.
use Prim.Native.Nat.{ℕ}
use mathlib.Core.Path.{◌≡◌, refl}
use mathlib.Core.List.{List, [], ◌∷◌, ◌++◌}
use Rattle.std.specs.Prelude.{Ok, Err}
use lib.ListN.{replicate}
use Rattle.words.specs.Numbers.{number_at}
use Rattle.key.specs.Keys.{data_at, data_key, raw_key, key_at, well_key, clean, root_key}
use Rattle.value.specs.Values.{value_at, node_at, side_at, bare_node}
use Rattle.value.specs.declared.Value.TheVariants as v
use Rattle.entry.specs.Entries.{add_tree_at, add_deferred_at, pair_of_slots, evict_deferred_at, record_at, absent_at, empty_at, entry_of, head_of, read_entry, read_at}
use Rattle.entry.specs.declared.Entry.TheVariants.{AddTree, AddDeferred, EvictTree, EvictDeferred, EvictTreeDeferred, Get, Absent, Put, Advance, Close}
use Rattle.entry.specs.declared.Unread.TheVariants.{Short, Malformed}

-- 09 0000, 0A 0000, 0A 0000, 07 0022 with slot 0 and 32 zero bytes
abbrev listing : List ℕ
listing = 9 ∷ 0 ∷ 0 ∷ 10 ∷ 0 ∷ 0 ∷ 10 ∷ 0 ∷ 0 ∷ 7 ∷ 0 ∷ 34 ∷ replicate 34 0

listing_1 : read_at listing 0 ≡ Ok (Advance, 3)
unfolding read_entry head_of entry_of empty_at number_at
listing_1 = refl

listing_2 : read_at listing 3 ≡ Ok (Close, 3)
unfolding read_entry head_of entry_of empty_at number_at
listing_2 = refl

listing_4 : read_at listing 9 ≡ Ok ((Absent 0 (data_key 0 0 0 0)), 37)
unfolding read_entry head_of entry_of absent_at data_at number_at
listing_4 = refl

listing_end : read_at listing 46 ≡ Err Short
unfolding read_entry head_of
listing_end = refl

-- ---- heads: the length has its high byte first

two_bytes_cut : read_entry (9 ∷ 0 ∷ []) ≡ Err Short
unfolding read_entry head_of
two_bytes_cut = refl

body_missing : read_entry (4 ∷ 0 ∷ 2 ∷ 7 ∷ []) ≡ Err Short
unfolding read_entry head_of number_at
body_missing = refl

high_byte_first : read_entry (9 ∷ 1 ∷ 0 ∷ []) ≡ Err Short
unfolding read_entry head_of number_at
high_byte_first = refl

unknown_tag : read_entry (11 ∷ 0 ∷ 1 ∷ 5 ∷ 9 ∷ []) ≡ Err (Malformed 4)
unfolding read_entry head_of entry_of number_at
unknown_tag = refl

-- ---- each body, and one byte more

add_tree_lem : read_entry (1 ∷ 0 ∷ 41 ∷ 0 ∷ 2 ∷ 1 ∷ 0 ∷ (replicate 34 0 ++ (2 ∷ 0 ∷ 0 ∷ []))) ≡ Ok ((AddTree 2 256 root_key (v.Node bare_node)), 44)
unfolding read_entry head_of entry_of add_tree_at key_at raw_key well_key clean value_at node_at side_at number_at
add_tree_lem = refl

add_tree_longer : read_entry (1 ∷ 0 ∷ 42 ∷ 0 ∷ 2 ∷ 1 ∷ 0 ∷ (replicate 34 0 ++ (2 ∷ 0 ∷ 0 ∷ 0 ∷ []))) ≡ Err (Malformed 45)
unfolding read_entry head_of entry_of add_tree_at key_at raw_key well_key clean value_at node_at side_at number_at
add_tree_longer = refl

add_deferred_lem :
    read_entry (2 ∷ 0 ∷ 53 ∷ 0 ∷ 7 ∷ (replicate 7 0 ++ (1 ∷ (replicate 6 0 ++ (2 ∷ 0 ∷ (replicate 34 0 ++ (0 ∷ [])))))))
    ≡ Ok ((AddDeferred 7 (record { 0 = 1 }) (record { 0 = 512 }) root_key v.None), 56)
unfolding read_entry head_of entry_of add_deferred_at key_at raw_key well_key clean value_at number_at
add_deferred_lem = refl

evict_tree_lem : read_entry (3 ∷ 0 ∷ 4 ∷ 0 ∷ 2 ∷ 1 ∷ 0 ∷ []) ≡ Ok ((EvictTree 2 256), 7)
unfolding read_entry head_of entry_of pair_of_slots number_at
evict_tree_lem = refl

evict_tree_longer : read_entry (3 ∷ 0 ∷ 5 ∷ 0 ∷ 2 ∷ 1 ∷ 0 ∷ 0 ∷ []) ≡ Err (Malformed 8)
unfolding read_entry head_of entry_of pair_of_slots number_at
evict_tree_longer = refl

evict_deferred_lem : read_entry (4 ∷ 0 ∷ 2 ∷ 0 ∷ 9 ∷ []) ≡ Ok ((EvictDeferred 9), 5)
unfolding read_entry head_of entry_of evict_deferred_at number_at
evict_deferred_lem = refl

evict_deferred_longer : read_entry (4 ∷ 0 ∷ 3 ∷ 0 ∷ 9 ∷ 0 ∷ []) ≡ Err (Malformed 6)
unfolding read_entry head_of entry_of evict_deferred_at number_at
evict_deferred_longer = refl

evict_tree_deferred_lem : read_entry (5 ∷ 0 ∷ 4 ∷ 0 ∷ 2 ∷ 1 ∷ 0 ∷ []) ≡ Ok ((EvictTreeDeferred 2 256), 7)
unfolding read_entry head_of entry_of pair_of_slots number_at
evict_tree_deferred_lem = refl

get : read_entry (6 ∷ 0 ∷ 35 ∷ 0 ∷ 5 ∷ (replicate 31 0 ++ (3 ∷ 0 ∷ []))) ≡ Ok ((Get 5 (data_key 0 0 0 3) v.None), 38)
unfolding read_entry head_of entry_of record_at data_at value_at number_at
get = refl

absent_longer : read_entry (7 ∷ 0 ∷ 35 ∷ replicate 35 0) ≡ Err (Malformed 38)
unfolding read_entry head_of entry_of absent_at number_at
absent_longer = refl

put : read_entry (8 ∷ 0 ∷ 35 ∷ 0 ∷ 5 ∷ (replicate 31 0 ++ (3 ∷ 0 ∷ []))) ≡ Ok ((Put 5 (data_key 0 0 0 3) v.None), 38)
unfolding read_entry head_of entry_of record_at data_at value_at number_at
put = refl

put_longer : read_entry (8 ∷ 0 ∷ 36 ∷ 0 ∷ 5 ∷ (replicate 31 0 ++ (3 ∷ 0 ∷ 0 ∷ []))) ≡ Err (Malformed 39)
unfolding read_entry head_of entry_of record_at data_at value_at number_at
put_longer = refl

close_longer : read_entry (10 ∷ 0 ∷ 1 ∷ 0 ∷ []) ≡ Err (Malformed 4)
unfolding read_entry head_of entry_of empty_at number_at
close_longer = refl
