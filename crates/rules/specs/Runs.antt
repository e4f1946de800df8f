-- A run, step by step (document 01, "Verdict numbers", its last paragraph): it continues after a refusal and stops at the end of the log or
-- at 28, 1 or 3; the entry it stops at counts as met.
use Rattle.std.specs.Prelude.{ℕ, zero, suc, ◌+◌, List, Bool, true, length, drop, leb, eqb}
use Rattle.words.specs.Choice.{pick, both}
use Rattle.verdict.specs.Verdicts.{accepted, not_well, short, wrong_cache}
use Rattle.cache.specs.Caches.{well_length}
use Rattle.state.specs.States.{settled}
use Rattle.state.specs.declared.State.{State}
use Rattle.rules.specs.Steps.{Step, well_formed, step}
use Rattle.rules.specs.declared.Ran.{Ran}

-- what a run comes to: what it returns, and every byte of the cache
pub record Run : Type 0 where
  pub result : Ran
  pub bytes : List ℕ

abbrev pub running : Ran → List ℕ → Run
running r c = record { result = r; bytes = c }

-- the verdicts at which a run stops
unfoldable pub halts : ℕ → Bool
halts v = pick (eqb v wrong_cache) true (pick (eqb v not_well) true (eqb v short))

-- whether state and cache are as 28 and 1 demand
unfoldable pub sound : State → List ℕ → Bool
sound st c = both (well_length c) (well_formed st c)

-- one more where the entry was accepted
abbrev pub counted : ℕ → ℕ → ℕ
counted v a = pick (eqb v accepted) (a + 1) a

-- the end: at bytes used, m entries met, a accepted. The last epoch settled is read from the end state; 0 where 28 or 1 applies
abbrev pub ended : ℕ → State → List ℕ → ℕ → ℕ → Run
ended at st c m a =
    running (record { state = st; settled = pick (sound st c) (settled st) 0; met = m; accepted = a; used = at }) c

-- one entry met, and what follows it
abbrev pub after_step : (ℕ → State → List ℕ → ℕ → ℕ → Run) → ℕ → Step → ℕ → ℕ → Run
after_step go at r m a =
    pick (halts r.result.verdict)
    (ended at r.result.state r.bytes (m + 1) a)
    (go (at + r.result.used) r.result.state r.bytes (m + 1) (counted r.result.verdict a))

-- at most n entries from at on
unfoldable pub run_from : ℕ → List ℕ → ℕ → State → List ℕ → ℕ → ℕ → Run
run_from zero log at st c m a = ended at st c m a
run_from (suc n) log at st c m a =
    pick (leb (length log) at) (ended at st c m a) (after_step (run_from n log) at (step (drop at log) st c) m a)

-- an entry has three bytes at least, so a log has no more entries than bytes
unfoldable pub run : List ℕ → State → List ℕ → Run
run log st c = run_from (length log) log 0 st c 0 0
