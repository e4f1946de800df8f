-- Entries of document 01's listing, written and computed.
use mathlib.Core.Path.{◌≡◌, refl}
use mathlib.Core.List.{[], ◌∷◌}
use Rattle.words.specs.Numbers.{bytes_of, zeros}
use Rattle.words.specs.Splices.{splice}
use Rattle.key.specs.Keys.{data_key, data_bytes, root_key}
use Rattle.value.specs.Values.{well_value}
use Rattle.value.specs.declared.Value.TheVariants as v
use Rattle.verdict.specs.Verdicts.{accepted, malformed, no_room}
use Rattle.entry.specs.Entries.{entry_tag, entry_body, entry_bytes, well_entry}
use Rattle.entry.specs.declared.Entry.TheVariants.{Get, Absent, Advance}
use Rattle.writer.specs.Writings.{writing, unwritten, write_entry}

-- 07 0022, slot 0, 32 zero bytes
absent_bytes : entry_bytes (Absent 0 (data_key 0 0 0 0)) ≡ 7 ∷ 0 ∷ 34 ∷ zeros 34
unfolding entry_bytes entry_tag entry_body data_bytes bytes_of zeros
absent_bytes = refl

-- 09 0000 fills a buffer of three bytes, and leaves the fourth of a longer one as it was
advance_fills : write_entry Advance (7 ∷ 7 ∷ 7 ∷ []) ≡ writing (record { verdict = accepted; used = 3 }) (9 ∷ 0 ∷ 0 ∷ [])
unfolding write_entry well_entry entry_bytes entry_tag entry_body bytes_of splice
advance_fills = refl

advance_keeps : write_entry Advance (7 ∷ 7 ∷ 7 ∷ 7 ∷ []) ≡ writing (record { verdict = accepted; used = 3 }) (9 ∷ 0 ∷ 0 ∷ 7 ∷ [])
unfolding write_entry well_entry entry_bytes entry_tag entry_body bytes_of splice
advance_keeps = refl

-- two bytes are too few: 27, and nothing touched
advance_refused : write_entry Advance (7 ∷ 7 ∷ []) ≡ unwritten no_room (7 ∷ 7 ∷ [])
unfolding write_entry well_entry entry_bytes entry_tag entry_body bytes_of splice
advance_refused = refl

-- a get of a node key would not be read back: 2, before 27
get_refused : write_entry (Get 0 root_key v.None) [] ≡ unwritten malformed []
unfolding write_entry well_entry well_value
get_refused = refl
