-- What the exported calls come to, one after another. Assumes nothing.
use Rattle.std.specs.Prelude.{Option, Some, None, Ok, Err}
use Prim.Native.Nat.{ℕ, ◌≤◌}
use mathlib.Core.Path.{◌≡◌, refl, ap, sym, ◌∙◌}
use mathlib.Core.List.{List}
use mathlib.Core.Bool.{false, true≢false}
use lib.ListN.{length, get_or, take}
use lib.Seq.{length-take-le}
use lib.Dec.{eqb}
use borrow.Author.Tests.{le-ltb}
use Rattle.words.specs.Numbers.{Bytes}
use Rattle.words.specs.Splices.{splice}
use Rattle.verdict.specs.Verdicts.{accepted}
use Rattle.entry.specs.Entries.{read_entry}
use Rattle.entry.specs.declared.Entry.{Entry}
use Rattle.writer.specs.Writings.{writing, write_entry}
use Rattle.writer.proofs.Same.{entry_same}
use Rattle.fields.proofs.Laws.{entry_back}
use Rattle.state.specs.declared.State.{State}
use Rattle.flat.specs.Flats.{state_at, StateFits}
use Rattle.flat.proofs.Laws.{state_back, state_same}
use Rattle.rules.specs.Steps.{Step, step}
use Rattle.rules.proofs.Refused.{Stepping, step_settles}
use Rattle.rules.proofs.Refused as refused
use Rattle.thiraduan.specs.Answers.{FlatRead, flat_read, flat_write, flattened, flat_step}

-- ---- a step, on the bytes of a state

module _ (log s c t : List ℕ) (b : Bytes s) (st : State) (e : state_at s ≡ Some st) where
  flat_step_lem : flat_step log s c t ≡ flattened (get_or log 0 0) st.epoch.0 (step log st c)
  unfolding flat_step
  flat_step_lem = rw e

  -- where the step leaves state and cache, the call leaves all their bytes
  step_kept : (step log st c).result.state ≡ st → (step log st c).bytes ≡ c → ((flat_step log s c t).state ≡ s) × ((flat_step log s c t).cache ≡ c)
  step_kept h g = (rw (flat_step_lem, h) (state_same s b st e), rw flat_step_lem g)

  -- the bytes that a step writes are the next state, so that calls one after another are steps one after another
  pub step_next : StateFits (step log st c).result.state → state_at (flat_step log s c t).state ≡ Some (step log st c).result.state
  step_next f = rw flat_step_lem (state_back (step log st c).result.state f)

no_state : (log s c t : List ℕ) → state_at s ≡ None → ((flat_step log s c t).state ≡ s) × ((flat_step log s c t).cache ≡ c)
unfolding flat_step
no_state log s c t e = (rw e refl, rw e refl)

-- whatever the bytes are: a refused call leaves those of the state and of the cache as they were
pub refused_kept : (log s c t : List ℕ) → Bytes s → eqb (flat_step log s c t).verdict accepted ≡ false → ((flat_step log s c t).state ≡ s) × ((flat_step log s c t).cache ≡ c)
refused_kept log s c t b f = go (state_at s) refl
  where
    go : (r : Option State) → state_at s ≡ r → ((flat_step log s c t).state ≡ s) × ((flat_step log s c t).cache ≡ c)
    go None e = no_state log s c t e
    go (Some st) e = by (step_settles st c log)
      where
        by : Stepping st c log (step log st c) → ((flat_step log s c t).state ≡ s) × ((flat_step log s c t).cache ≡ c)
        by (refused.kept n m z q) = step_kept log s c t b st e (ap (λ (o : Step). o.result.state) q) (ap (λ (o : Step). o.bytes) q)
        by (refused.took g x n σ d p h q) = absurd (true≢false (sym (rw (flat_step_lem log s c t b st e, q) refl) ∙ f))

-- ---- an entry, read and written again

module _ (log n k x out : List ℕ) (b : Bytes log) (e : Entry) (m : ℕ) (p : read_entry log ≡ Ok (e, m)) where
  -- what was read into fields is written from them as the same bytes, where there is room
  pub read_write : (r : FlatRead) → r ≡ flat_read log n k x → m ≤ length out
      → flat_write r.numbers r.key r.value out ≡ writing (record { verdict = accepted; used = m }) (splice out 0 (take m log))
  unfolding flat_read flat_write write_entry
  read_write r q h =
      let there = entry_same log b e m p in
      let l : length (take m log) ≡ m = length-take-le m log there.within in
      rw (q, p, entry_back e there.fits there.well, there.well, there.bytes, l, le-ltb (length out) m h)
