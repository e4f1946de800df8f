-- How long the bytes of entries are, and what the writer answers. Assumes nothing.
use Prim.Native.Nat.{ℕ, ◌+◌, ◌≤◌, ◌<◌}
use mathlib.Core.Bool.{true, false}
use mathlib.Core.Path.{◌≡◌, refl, ap}
use mathlib.Core.List.{List}
use native.Mathlib.Omega.{arith}
use lib.ListN.{length, length-append}
use borrow.Author.Tests.{lt-ltb, le-ltb}
use Rattle.words.specs.Splices.{splice}
use Rattle.words.proofs.Laws.{bytes_length}
use Rattle.key.proofs.Laws.{key_length, data_length}
use Rattle.value.specs.Values.{value_bytes}
use Rattle.value.proofs.Laws.{value_length_lem}
use Rattle.std.specs.Prelude.{Result}
use Rattle.verdict.specs.Verdicts.{accepted, malformed, no_room}
use Rattle.verdict.specs.declared.Refusal.{Refusal}
use Rattle.verdict.proofs.Reasons.{view_back}
use Rattle.entry.specs.Entries.{entry_body, entry_bytes, well_entry}
use Rattle.entry.specs.declared.Entry.{Entry}
use Rattle.writer.specs.Writings.{Written, written, writing, unwritten, write_entry}
use Rattle.entry.specs.declared.Entry.TheVariants.{AddTree, AddDeferred, EvictTree, EvictDeferred, EvictTreeDeferred, Get, Absent, Put, Advance, Close}

-- how many bytes the body of each entry has
abbrev pub body_length : Entry → ℕ
body_length (AddTree s p k x) = 38 + length (value_bytes x)
body_length (AddDeferred s e t k x) = 52 + length (value_bytes x)
body_length (EvictTree s p) = 4
body_length (EvictDeferred s) = 2
body_length (EvictTreeDeferred s p) = 4
body_length (Get s k x) = 34 + length (value_bytes x)
body_length (Absent p k) = 34
body_length (Put s k x) = 34 + length (value_bytes x)
body_length Advance = 0
body_length Close = 0

pub body_length_lem : (e : Entry) → length (entry_body e) ≡ body_length e
unfolding entry_body
body_length_lem (AddTree s p k x) = simp (length-append, bytes_length, key_length) (omega arith)
body_length_lem (AddDeferred s e t k x) = simp (length-append, bytes_length, key_length) (omega arith)
body_length_lem (EvictTree s p) = simp (length-append, bytes_length)
body_length_lem (EvictDeferred s) = bytes_length 2 s
body_length_lem (EvictTreeDeferred s p) = simp (length-append, bytes_length)
body_length_lem (Get s k x) = simp (length-append, bytes_length, data_length) (omega arith)
body_length_lem (Absent p k) = simp (length-append, bytes_length, data_length)
body_length_lem (Put s k x) = simp (length-append, bytes_length, data_length) (omega arith)
body_length_lem Advance = refl
body_length_lem Close = refl

-- the widest body is a deferred add's
pub body_small : (e : Entry) → length (entry_body e) ≤ 189
body_small e = rw (body_length_lem e) (small e)
  where
    small : (e : Entry) → body_length e ≤ 189
    small (AddTree s p k x) = omega (arith, value_length_lem x)
    small (AddDeferred s e t k x) = omega (arith, value_length_lem x)
    small (EvictTree s p) = omega arith
    small (EvictDeferred s) = omega arith
    small (EvictTreeDeferred s p) = omega arith
    small (Get s k x) = omega (arith, value_length_lem x)
    small (Absent p k) = omega arith
    small (Put s k x) = omega (arith, value_length_lem x)
    small Advance = omega arith
    small Close = omega arith

pub entry_length : (e : Entry) → length (entry_bytes e) ≡ 3 + length (entry_body e)
unfolding entry_bytes
entry_length e = simp (length-append, bytes_length) (omega arith)

-- ---- the answers

-- no two results of the code come to one answer
pub written_back : (a b : Result ℕ Refusal) → written a ≡ written b → a ≡ b
written_back = view_back written (λ (w : Written). w.verdict) (λ t. refl) (λ r. refl) (λ s t e. ap (λ (w : Written). w.used) e)

module _ (e : Entry) (out : List ℕ) where
  pub write_malformed : well_entry e ≡ false → unwritten malformed out ≡ write_entry e out
  unfolding write_entry
  write_malformed w = rw w

  module _ (w : well_entry e ≡ true) (n : ℕ) (l : n ≡ length (entry_body e)) where
    pub write_no_room : length out < 3 + n → unwritten no_room out ≡ write_entry e out
    unfolding write_entry
    write_no_room h = rw (w, entry_length e, ← l, lt-ltb (length out) (3 + n) h)

    pub write_done : (after : List ℕ) → 3 + n ≤ length out → after ≡ splice out 0 (entry_bytes e)
        → writing (record { verdict = accepted; used = 3 + n }) after ≡ write_entry e out
    unfolding write_entry
    write_done after h s = rw (w, entry_length e, ← l, le-ltb (length out) (3 + n) h, s)
