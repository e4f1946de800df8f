-- The writer of entries (document 01, "Verdict numbers": it refuses 2, then 27, and touches only the bytes of its entry).
use Rattle.std.specs.Prelude.{ℕ, ◌^◌, ◌<◌, List, Result, Ok, Err, length, ltb}
use Rattle.words.specs.Choice.{pick}
use Rattle.words.specs.Splices.{splice}
use Rattle.key.specs.Keys.{KeyFits}
use Rattle.value.specs.Values.{ValueFits}
use Rattle.verdict.specs.Verdicts.{accepted, malformed, no_room, number}
use Rattle.verdict.specs.declared.Refusal.{Refusal}
use Rattle.entry.specs.Entries.{entry_bytes, well_entry}
use Rattle.entry.specs.declared.Entry.{Entry}
use Rattle.entry.specs.declared.Entry.TheVariants.{AddTree, AddDeferred, EvictTree, EvictDeferred, EvictTreeDeferred, Get, Absent, Put, Advance, Close}

-- what the writer answers: 0, 2 or 27, and how many bytes it wrote
pub record Written : Type 0 where
  pub verdict : ℕ
  pub used : ℕ

-- the same of what the code returns
abbrev pub written : Result ℕ Refusal → Written
written (Ok n) = record { verdict = accepted; used = n }
written (Err r) = record { verdict = number r; used = 0 }

-- what the writer comes to: its answer, and every byte of the lent buffer
pub record Writing : Type 0 where
  pub answer : Written
  pub bytes : List ℕ

abbrev pub writing : Written → List ℕ → Writing
writing a b = record { answer = a; bytes = b }

-- a refusal touches nothing
abbrev pub unwritten : ℕ → List ℕ → Writing
unwritten n out = writing (record { verdict = n; used = 0 }) out

-- 2, then 27; else the entry's bytes at the buffer's start
unfoldable pub write_entry : Entry → List ℕ → Writing
write_entry e out =
    pick (well_entry e)
    (pick (ltb (length out) (length (entry_bytes e))) (unwritten no_room out)
    (writing (record { verdict = accepted; used = length (entry_bytes e) }) (splice out 0 (entry_bytes e))))
    (unwritten malformed out)

-- every number fits its field, as in every entry of the code
abbrev pub EntryFits : Entry → Type 0
EntryFits (AddTree s p k x) = (s < 2 ^ 16) × ((p < 2 ^ 16) × (KeyFits k × ValueFits x))
EntryFits (AddDeferred s e t k x) = (s < 2 ^ 16) × ((e.0 < 2 ^ 64) × ((t.0 < 2 ^ 64) × (KeyFits k × ValueFits x)))
EntryFits (EvictTree s p) = (s < 2 ^ 16) × (p < 2 ^ 16)
EntryFits (EvictDeferred s) = s < 2 ^ 16
EntryFits (EvictTreeDeferred s p) = (s < 2 ^ 16) × (p < 2 ^ 16)
EntryFits (Get s k x) = (s < 2 ^ 16) × (KeyFits k × ValueFits x)
EntryFits (Absent p k) = (p < 2 ^ 16) × KeyFits k
EntryFits (Put s k x) = (s < 2 ^ 16) × (KeyFits k × ValueFits x)
EntryFits Advance = Unit
EntryFits Close = Unit
