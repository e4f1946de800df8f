-- Document 01, "Traps in this trade": histories, computed from bytes to bytes, that show why demand 3 says neither more nor less. Digests and tags
-- stay symbols.
use Rattle.std.specs.Prelude.{Some}
use Prim.Native.Nat.{ℕ}
use mathlib.Core.Path.{◌≡◌, refl, ◌∙◌, ap}
use mathlib.Core.Bool.{true}
use mathlib.Core.Option.{some}
use mathlib.Core.List.{List, [], ◌∷◌}
use Rattle.words.specs.Numbers.{number_at, bytes_of, zeros}
use Rattle.verdict.specs.Verdicts.{accepted}
use Rattle.words.specs.Splices.{splice}
use Rattle.cmac.specs.Tags.{no_tag, tag_xor, tag_eq}
use Rattle.cmac.specs.declared.Tag.{Tag}
use Rattle.cmac.proofs.Tags.{tag_assoc, tag_comm, tag_zero, tag_self, eq_tag}
use Rattle.key.specs.Keys.{data_key, clean, well_key, key_bytes, raw_key, key_at, data_at, data_bytes, key_eq, same_top, above, bit_at, toward}
use Rattle.key.specs.declared.Key.{Key}
use Rattle.value.specs.Values.{digest_at, digest_bytes, digest_eq, link_bytes, side_bytes, fingerprint_bytes, node_bytes, value_bytes, link_at, side_at, node_at, fingerprint_at, value_at, fits, is_first, value_eq}
use Rattle.value.specs.declared.Value.{Value}
use Rattle.value.specs.declared.Value.TheVariants as v
use Rattle.message.specs.declared.Message.{Message}
use Rattle.entry.specs.Entries.{add_tree_at, add_deferred_at, pair_of_slots, evict_deferred_at, record_at, absent_at, empty_at, entry_of, head_of, read_entry, entry_tag, entry_body, entry_bytes}
use Rattle.entry.specs.declared.Entry.{Entry}
use Rattle.entry.specs.declared.Entry.TheVariants.{AddTree, AddDeferred, EvictDeferred, EvictTreeDeferred, Get, Put, Advance, Close}
use Rattle.hash.specs.Hashes.{set_key, tag_of}
use Rattle.slot.specs.Slots.{slot_bytes, all_zero, slot_at}
use Rattle.cache.specs.Caches.{well_length, held_in, held, well_record, well_at, well_from, well_cache, opened_cache}
use Rattle.state.specs.States.{well_state, added_current, added_old, evicted_state, evict_message, evicted, advanced_state, closed_state, fresh_state, open_def}
use Rattle.rules.specs.Outcomes.{gives}
use Rattle.rules.specs.Adds.{linked, add_link, add_node, add_under, add_tree, named_epoch, add_into, add_deferred, add_message}
use Rattle.rules.specs.Evicts.{unlinked, evict_link, evict_node, evict_under, evict_by, evict_deferred}
use Rattle.rules.specs.Answers.{get, absent, put}
use Rattle.rules.specs.Epochs.{advance, close}
use Rattle.rules.specs.Steps.{entry_step, step_well, step}
use Rattle.integrity.specs.Same.{message_dec, number_dec, key_dec, value_dec}
use Rattle.integrity.specs.Counting.{odds, toggle}
use Rattle.integrity.specs.Statement.{Moment, fresh, step_at, after, run, taken, last_put, of_epoch, odd_messages}

-- the data key of 256 zeros, and a fingerprint
abbrev Z : Key
Z = data_key 0 0 0 0

abbrev F : Value
F = v.Fingerprint (record { d0 = 7; d1 = 0; d2 = 0; d3 = 0 })

-- add Z deferred, with none: an epoch and a time
abbrev defer : ℕ → ℕ → Entry
defer e t = AddDeferred 1 (record { 0 = e }) (record { 0 = t }) Z v.None

-- its message
abbrev message : ℕ → Message
message t = add_message (record { 0 = 1 }) (record { 0 = t }) Z v.None

-- four slots, opened
abbrev begin : Moment
begin = fresh (zeros 16) (zeros 768)

-- the entries as inputs, and the verdicts that they get
abbrev written : List Entry → List (List ℕ)
written [] = []
written (x ∷ xs) = entry_bytes x ∷ written xs

abbrev verdicts : Moment → List (List ℕ) → List ℕ
verdicts m [] = []
verdicts m (w ∷ ws) = (step_at m w).result.verdict ∷ verdicts (after m w) ws

-- ---- xor alone: a is added three times, evicted on as b, c, d, and those moved to the next epoch

abbrev three_times : List (List ℕ)
three_times =
    written (AddTree 1 0 Z v.None ∷ EvictTreeDeferred 1 0 ∷
    defer 1 1 ∷ EvictDeferred 1 ∷ defer 1 1 ∷ EvictDeferred 1 ∷ defer 1 1 ∷ EvictDeferred 1 ∷
    Advance ∷ defer 1 2 ∷ EvictDeferred 1 ∷ defer 1 3 ∷ EvictDeferred 1 ∷ defer 1 4 ∷ EvictDeferred 1 ∷ Close ∷ [])

abbrev tag : ℕ → Tag
tag t = tag_of (set_key (zeros 16)) (message t)

-- every entry is accepted but the close, which the counts refuse
pub three_verdicts : verdicts begin three_times ≡ 0 ∷ 0 ∷ 0 ∷ 0 ∷ 0 ∷ 0 ∷ 0 ∷ 0 ∷ 0 ∷ 0 ∷ 0 ∷ 0 ∷ 0 ∷ 0 ∷ 0 ∷ 23 ∷ []
unfolding open_def number_at bytes_of zeros splice clean well_key key_bytes raw_key key_at data_at data_bytes key_eq same_top above bit_at toward digest_at digest_bytes digest_eq link_bytes side_bytes fingerprint_bytes node_bytes value_bytes link_at side_at node_at fingerprint_at value_at fits is_first value_eq add_tree_at add_deferred_at pair_of_slots evict_deferred_at record_at absent_at empty_at entry_of head_of read_entry entry_tag entry_body entry_bytes set_key slot_bytes all_zero slot_at well_length held_in held well_record well_at well_from well_cache opened_cache well_state added_current added_old evicted_state evict_message evicted advanced_state closed_state fresh_state linked add_link add_node add_under add_tree named_epoch add_into add_deferred unlinked evict_link evict_node evict_under evict_by evict_deferred get absent put advance close entry_step step_well step
three_verdicts = refl

-- six adds and four evicts
pub three_tally : (run begin three_times).state.old ≡ Some (record {
  adds = 6;
  evicts = 4;
  addsum = tag_xor (tag_xor (tag_xor (tag_xor (tag_xor (tag_xor no_tag (tag 1)) (tag 1)) (tag 1)) (tag 2)) (tag 3)) (tag 4);
  evictsum = tag_xor (tag_xor (tag_xor (tag_xor no_tag (tag 1)) (tag 2)) (tag 3)) (tag 4);
})
unfolding open_def number_at bytes_of zeros splice clean well_key key_bytes raw_key key_at data_at data_bytes key_eq same_top above bit_at toward digest_at digest_bytes digest_eq link_bytes side_bytes fingerprint_bytes node_bytes value_bytes link_at side_at node_at fingerprint_at value_at fits is_first value_eq add_tree_at add_deferred_at pair_of_slots evict_deferred_at record_at absent_at empty_at entry_of head_of read_entry entry_tag entry_body entry_bytes set_key slot_bytes all_zero slot_at well_length held_in held well_record well_at well_from well_cache opened_cache well_state added_current added_old evicted_state evict_message evicted advanced_state closed_state fresh_state linked add_link add_node add_under add_tree named_epoch add_into add_deferred unlinked evict_link evict_node evict_under evict_by evict_deferred get absent put advance close entry_step step_well step
three_tally = refl

twice : (x a : Tag) → tag_xor (tag_xor x a) a ≡ x
twice x a = tag_assoc x a a ∙ ap (tag_xor x) (tag_self a) ∙ tag_comm x no_tag ∙ tag_zero x

-- and equal sums, whatever the tags: a verifier that compared no counts would close
pub three_sums : (a b c d : Tag)
    → tag_eq (tag_xor (tag_xor (tag_xor (tag_xor (tag_xor (tag_xor no_tag a) a) a) b) c) d) (tag_xor (tag_xor (tag_xor (tag_xor no_tag a) b) c) d) ≡ true
three_sums a b c d = eq_tag _ _ (ap (λ g. tag_xor (tag_xor (tag_xor g b) c) d) (twice (tag_xor no_tag a) a))

-- nothing is counted an odd number of times, so that the exception of demand 3 would not excuse it
pub three_odds : odd_messages 1 begin three_times ≡ []
unfolding open_def of_epoch odds toggle message_dec number_dec key_dec value_dec number_at bytes_of zeros splice clean well_key key_bytes raw_key key_at data_at data_bytes key_eq same_top above bit_at toward digest_at digest_bytes digest_eq link_bytes side_bytes fingerprint_bytes node_bytes value_bytes link_at side_at node_at fingerprint_at value_at fits is_first value_eq add_tree_at add_deferred_at pair_of_slots evict_deferred_at record_at absent_at empty_at entry_of head_of read_entry entry_tag entry_body entry_bytes set_key slot_bytes all_zero slot_at well_length held_in held well_record well_at well_from well_cache opened_cache well_state added_current added_old evicted_state evict_message evicted advanced_state closed_state fresh_state linked add_link add_node add_under add_tree named_epoch add_into add_deferred unlinked evict_link evict_node evict_under evict_by evict_deferred get absent put advance close entry_step step_well step
three_odds = refl

-- ---- a get is settled with the epoch current at the get, not with its record's: in epoch 2 a message that was never evicted is added (so epoch 2
-- will not close), the put goes into that record, and then the message of epoch 1 is added as it ought to be. From that record of epoch 1 a get
-- shows none, after a put of F; and epoch 1 closes

abbrev other_record : List (List ℕ)
other_record = written (AddTree 1 0 Z v.None ∷ EvictTreeDeferred 1 0 ∷ Advance ∷ defer 2 1 ∷ Put 1 Z F ∷ EvictDeferred 1 ∷ defer 1 1 ∷ [])

pub other_get : taken (run begin other_record) (entry_bytes (Get 1 Z v.None)) ≡ some (Get 1 Z v.None)
unfolding open_def number_at bytes_of zeros splice clean well_key key_bytes raw_key key_at data_at data_bytes key_eq same_top above bit_at toward digest_at digest_bytes digest_eq link_bytes side_bytes fingerprint_bytes node_bytes value_bytes link_at side_at node_at fingerprint_at value_at fits is_first value_eq add_tree_at add_deferred_at pair_of_slots evict_deferred_at record_at absent_at empty_at entry_of head_of read_entry entry_tag entry_body entry_bytes set_key slot_bytes all_zero slot_at well_length held_in held well_record well_at well_from well_cache opened_cache well_state added_current added_old evicted_state evict_message evicted advanced_state closed_state fresh_state linked add_link add_node add_under add_tree named_epoch add_into add_deferred unlinked evict_link evict_node evict_under evict_by evict_deferred get absent put advance close entry_step step_well step
other_get = refl

pub other_put : last_put begin other_record (λ k. v.None) Z ≡ F
unfolding open_def number_at bytes_of zeros splice clean well_key key_bytes raw_key key_at data_at data_bytes key_eq same_top above bit_at toward digest_at digest_bytes digest_eq link_bytes side_bytes fingerprint_bytes node_bytes value_bytes link_at side_at node_at fingerprint_at value_at fits is_first value_eq add_tree_at add_deferred_at pair_of_slots evict_deferred_at record_at absent_at empty_at entry_of head_of read_entry entry_tag entry_body entry_bytes set_key slot_bytes all_zero slot_at well_length held_in held well_record well_at well_from well_cache opened_cache well_state added_current added_old evicted_state evict_message evicted advanced_state closed_state fresh_state linked add_link add_node add_under add_tree named_epoch add_into add_deferred unlinked evict_link evict_node evict_under evict_by evict_deferred get absent put advance close entry_step step_well step
other_put = refl

pub other_epoch : (run begin other_record).state.epoch.0 ≡ 2
unfolding open_def number_at bytes_of zeros splice clean well_key key_bytes raw_key key_at data_at data_bytes key_eq same_top above bit_at toward digest_at digest_bytes digest_eq link_bytes side_bytes fingerprint_bytes node_bytes value_bytes link_at side_at node_at fingerprint_at value_at fits is_first value_eq add_tree_at add_deferred_at pair_of_slots evict_deferred_at record_at absent_at empty_at entry_of head_of read_entry entry_tag entry_body entry_bytes set_key slot_bytes all_zero slot_at well_length held_in held well_record well_at well_from well_cache opened_cache well_state added_current added_old evicted_state evict_message evicted advanced_state closed_state fresh_state linked add_link add_node add_under add_tree named_epoch add_into add_deferred unlinked evict_link evict_node evict_under evict_by evict_deferred get absent put advance close entry_step step_well step
other_epoch = refl

other_tally : (run begin other_record).state.old ≡ Some (record { adds = 1; evicts = 1; addsum = tag_xor no_tag (tag 1); evictsum = tag_xor no_tag (tag 1) })
unfolding open_def number_at bytes_of zeros splice clean well_key key_bytes raw_key key_at data_at data_bytes key_eq same_top above bit_at toward digest_at digest_bytes digest_eq link_bytes side_bytes fingerprint_bytes node_bytes value_bytes link_at side_at node_at fingerprint_at value_at fits is_first value_eq add_tree_at add_deferred_at pair_of_slots evict_deferred_at record_at absent_at empty_at entry_of head_of read_entry entry_tag entry_body entry_bytes set_key slot_bytes all_zero slot_at well_length held_in held well_record well_at well_from well_cache opened_cache well_state added_current added_old evicted_state evict_message evicted advanced_state closed_state fresh_state linked add_link add_node add_under add_tree named_epoch add_into add_deferred unlinked evict_link evict_node evict_under evict_by evict_deferred get absent put advance close entry_step step_well step
other_tally = refl

pub other_closes : close (run begin other_record).state ≡ gives accepted (closed_state (run begin other_record).state)
unfolding close
other_closes = rw (other_tally, eq_tag (tag_xor no_tag (tag 1)) (tag_xor no_tag (tag 1)) refl)
