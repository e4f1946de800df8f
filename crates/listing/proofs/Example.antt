-- Document 01's listing, worked from the definition: the log `09 0000`, `0A 0000`, `0A 0000`, `07 0022` with slot 0 and 32 zero bytes.
-- Assumes nothing.
use Prim.Native.Nat.{ℕ}
use mathlib.Core.Path.{◌≡◌, refl}
use mathlib.Core.List.{List, [], ◌∷◌}
use lib.ListN.{replicate}
use Rattle.words.specs.Numbers.{number_at, bytes_of, zeros}
use Rattle.words.specs.Splices.{splice}
use Rattle.key.specs.Keys.{clean, well_key, key_bytes, raw_key, key_at, data_at, data_bytes, key_eq, same_top, above, bit_at, toward}
use Rattle.value.specs.Values.{digest_at, digest_bytes, digest_eq, link_bytes, side_bytes, fingerprint_bytes, node_bytes, value_bytes, link_at, side_at, node_at, fingerprint_at, value_at, fits, is_first, value_eq}
use Rattle.entry.specs.Entries.{add_tree_at, add_deferred_at, pair_of_slots, evict_deferred_at, record_at, absent_at, empty_at, entry_of, head_of, read_entry, entry_tag, entry_body, entry_bytes}
use Rattle.hash.specs.Hashes.{set_key}
use Rattle.slot.specs.Slots.{slot_bytes, all_zero, slot_at}
use Rattle.cache.specs.Caches.{well_length, held_in, held, well_record, well_at, well_from, well_cache, opened_cache}
use Rattle.state.specs.States.{settled, well_state, added_current, added_old, evicted_state, evict_message, evicted, advanced_state, closed_state, fresh_state}
use Rattle.rules.specs.Adds.{linked, add_link, add_node, add_under, add_tree, named_epoch, add_into, add_deferred}
use Rattle.rules.specs.Evicts.{unlinked, evict_link, evict_node, evict_under, evict_by, evict_deferred}
use Rattle.rules.specs.Answers.{get, absent, put}
use Rattle.rules.specs.Epochs.{advance, close}
use Rattle.rules.specs.Steps.{entry_step, step_well, step}
use Rattle.rules.specs.Runs.{halts}
use Rattle.text.specs.Text.{digits_before, decimal, field, line_text, end_text}
use Rattle.listing.specs.Listings.{rows_from, listing}

abbrev log : List ℕ
log = 9 ∷ 0 ∷ 0 ∷ 10 ∷ 0 ∷ 0 ∷ 10 ∷ 0 ∷ 0 ∷ 7 ∷ 0 ∷ 34 ∷ replicate 34 0

-- slots 4 / 1 9 0 2 / 2 10 0 2 / 3 10 22 2 / 4 7 0 2 / settled 1 bytes 46
pub example : listing (replicate 16 0) log ≡
    115 ∷ 108 ∷ 111 ∷ 116 ∷ 115 ∷ 32 ∷ 52 ∷ 10 ∷ 49 ∷ 32 ∷ 57 ∷ 32 ∷ 48 ∷ 32 ∷ 50 ∷ 10 ∷ 50 ∷ 32 ∷ 49 ∷ 48 ∷ 32 ∷ 48 ∷ 32 ∷ 50 ∷ 10 ∷ 51 ∷ 32 ∷ 49 ∷ 48 ∷ 32 ∷ 50 ∷ 50 ∷ 32 ∷ 50 ∷ 10 ∷ 52 ∷ 32 ∷ 55 ∷ 32 ∷ 48 ∷ 32 ∷ 50 ∷ 10 ∷ 115 ∷ 101 ∷ 116 ∷ 116 ∷ 108 ∷ 101 ∷ 100 ∷ 32 ∷ 49 ∷ 32 ∷ 98 ∷ 121 ∷ 116 ∷ 101 ∷ 115 ∷ 32 ∷ 52 ∷ 54 ∷ 10 ∷ []
unfolding number_at bytes_of zeros splice clean well_key key_bytes raw_key key_at data_at data_bytes key_eq same_top above bit_at toward digest_at digest_bytes digest_eq link_bytes side_bytes fingerprint_bytes node_bytes value_bytes link_at side_at node_at fingerprint_at value_at fits is_first value_eq add_tree_at add_deferred_at pair_of_slots evict_deferred_at record_at absent_at empty_at entry_of head_of read_entry entry_tag entry_body entry_bytes set_key slot_bytes all_zero slot_at well_length held_in held well_record well_at well_from well_cache opened_cache well_state added_current added_old evicted_state evict_message evicted advanced_state closed_state fresh_state linked add_link add_node add_under add_tree named_epoch add_into add_deferred unlinked evict_link evict_node evict_under evict_by evict_deferred get absent put advance close entry_step step_well step halts settled digits_before decimal field line_text end_text rows_from listing
example = refl
