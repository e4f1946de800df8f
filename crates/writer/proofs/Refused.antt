-- What is written is bytes, so an entry that the writer refuses with 2 would not be read back from its own. Assumes nothing.
use Prim.Native.Nat.{ℕ, ◌<◌}
use mathlib.Core.Path.{◌≡◌}
use mathlib.Core.List.{List, ◌++◌}
use mathlib.Core.Bool.{false}
use lib.ListN.{length}
use lib.Dec.{lit<}
use Rattle.words.specs.Numbers.{Bytes}
use Rattle.words.proofs.Laws.{append_bytes, no_bytes}
use Rattle.key.specs.Keys.{data_bytes}
use Rattle.key.specs.declared.Key.{Key}
use Rattle.key.proofs.Laws.{data_bytes_lem}
use Rattle.value.proofs.Written.{AllBytes, then, one, number, key, value}
use Rattle.entry.specs.Entries.{read_entry, entry_tag, entry_body, entry_bytes, well_entry}
use Rattle.entry.specs.declared.Entry.{Entry}
use Rattle.entry.specs.declared.Entry.TheVariants.{AddTree, AddDeferred, EvictTree, EvictDeferred, EvictTreeDeferred, Get, Absent, Put, Advance, Close}
use Rattle.std.specs.Prelude.{Ok}
use Rattle.writer.proofs.Same.{not_well_lem}

data_key_lem : (k : Key) → AllBytes (data_bytes k)
data_key_lem k = record { bytes = data_bytes_lem k }

body : (e : Entry) → AllBytes (entry_body e)
unfolding entry_body
body (AddTree s p k x) = then (number 2 s) (then (number 2 p) (then (key k) (value x)))
body (AddDeferred s e t k x) = then (number 2 s) (then (number 8 e.0) (then (number 8 t.0) (then (key k) (value x))))
body (EvictTree s p) = then (number 2 s) (number 2 p)
body (EvictDeferred s) = number 2 s
body (EvictTreeDeferred s p) = then (number 2 s) (number 2 p)
body (Get s k x) = then (number 2 s) (then (data_key_lem k) (value x))
body (Absent p k) = then (number 2 p) (data_key_lem k)
body (Put s k x) = then (number 2 s) (then (data_key_lem k) (value x))
body Advance = record { bytes = no_bytes }
body Close = record { bytes = no_bytes }

tag_small : (e : Entry) → entry_tag e < 256
unfolding entry_tag
tag_small (AddTree s p k x) = lit< tt
tag_small (AddDeferred s e t k x) = lit< tt
tag_small (EvictTree s p) = lit< tt
tag_small (EvictDeferred s) = lit< tt
tag_small (EvictTreeDeferred s p) = lit< tt
tag_small (Get s k x) = lit< tt
tag_small (Absent p k) = lit< tt
tag_small (Put s k x) = lit< tt
tag_small Advance = lit< tt
tag_small Close = lit< tt

pub entry_bytes_lem : (e : Entry) → Bytes (entry_bytes e)
unfolding entry_bytes
entry_bytes_lem e = (then (one (entry_tag e) (tag_small e)) (then (number 2 (length (entry_body e))) (body e))).bytes

-- an entry that is not well formed would not be read back, whatever bytes follow
pub not_back : (e : Entry) → well_entry e ≡ false → (r : List ℕ) → Bytes r → (n : ℕ) → read_entry (entry_bytes e ++ r) ≡ Ok (e, n) → ⊥
not_back e w r b n p = not_well_lem (entry_bytes e ++ r) (append_bytes (entry_bytes e) r (entry_bytes_lem e) b) e n w p
