-- Demand 3 of a run over any log, from demand 3 of the inputs that it steps.
use Prim.Native.Nat.{ℕ, zero, suc, ◌+◌, ◌≤◌}
use mathlib.Core.Bool.{Bool, true, false}
use mathlib.Core.List.{List, [], ◌∷◌}
use native.Mathlib.Omega.{arith}
use lib.ListN.{length, drop}
use lib.Dec.{leb}
use Rattle.words.specs.Choice.{pick}
use Rattle.words.specs.Numbers.{Bytes}
use Rattle.words.proofs.Laws.{drop_bytes}
use Rattle.state.specs.States.{settled}
use Rattle.state.specs.declared.State.{State}
use Rattle.rules.specs.Steps.{step}
use Rattle.rules.specs.Runs as runs
use Rattle.rules.specs.Runs.{halts, sound, counted, ended, run_from}
use Rattle.integrity.specs.Statement.{fresh, run, AllBytes}
use Rattle.integrity.specs.Logs.{rests, inputs_of, RunDemand3}
use Rattle.integrity.proofs.Demand3.{settled_demand_3}

-- what a run returns as settled is not above what its end state says
ended_le : (at : ℕ) (st : State) (c : List ℕ) (m a : ℕ) → (ended at st c m a).result.settled ≤ settled st
ended_le at st c m a = go (sound st c)
  where
    go : (b : Bool) → pick b (settled st) 0 ≤ settled st
    go true = omega arith
    go false = omega arith

module _ (log : List ℕ) where
  -- one input more, by whether the log is at its end and whether the run stops at it
  one_more : (n at : ℕ) (st : State) (c : List ℕ) (m a : ℕ) (b h : Bool) → let r = step (drop at log) st c in
      (run_from n log (at + r.result.used) r.result.state r.bytes (m + 1) (counted r.result.verdict a)).result.settled
      ≤ settled (run (record { state = r.result.state; cache = r.bytes }) (rests n log (at + r.result.used) r.result.state r.bytes)).state
      → (pick b (ended at st c m a) (pick h (ended at r.result.state r.bytes (m + 1) a)
      (run_from n log (at + r.result.used) r.result.state r.bytes (m + 1) (counted r.result.verdict a)))).result.settled
      ≤ settled (run (record { state = st; cache = c }) (pick b [] (drop at log ∷ pick h [] (rests n log (at + r.result.used) r.result.state r.bytes)))).state
  one_more n at st c m a true h i = ended_le at st c m a
  one_more n at st c m a false true i = let r = step (drop at log) st c in ended_le at r.result.state r.bytes (m + 1) a
  one_more n at st c m a false false i = i

  run_settled : (n at : ℕ) (st : State) (c : List ℕ) (m a : ℕ)
      → (run_from n log at st c m a).result.settled ≤ settled (run (record { state = st; cache = c }) (rests n log at st c)).state
  unfolding run_from rests
  run_settled zero at st c m a = ended_le at st c m a
  run_settled (suc n) at st c m a = let r = step (drop at log) st c in
      one_more n at st c m a (leb (length log) at) (halts r.result.verdict)
      (run_settled n (at + r.result.used) r.result.state r.bytes (m + 1) (counted r.result.verdict a))

  rest_bytes : Bytes log → (at : ℕ) (b h : Bool) (l : List (List ℕ)) → AllBytes l → AllBytes (pick b [] (drop at log ∷ pick h [] l))
  rest_bytes p at true h l q = tt
  rest_bytes p at false true l q = (drop_bytes log at p, tt)
  rest_bytes p at false false l q = (drop_bytes log at p, q)

  all_bytes : Bytes log → (n at : ℕ) (st : State) (c : List ℕ) → AllBytes (rests n log at st c)
  unfolding rests
  all_bytes p zero at st c = tt
  all_bytes p (suc n) at st c = let r = step (drop at log) st c in
      rest_bytes p at (leb (length log) at) (halts r.result.verdict) _ (all_bytes p n (at + r.result.used) r.result.state r.bytes)

pub run_demand_3 : (key c log : List ℕ) (e : ℕ) → RunDemand3 key c log e
run_demand_3 key c log e b h =
    let m = fresh key c in
    settled_demand_3 key c (inputs_of log m) e (all_bytes log b (length log) 0 m.state m.cache) (below (unfold runs.run in h))
  where
    below : e ≤ (run_from (length log) log 0 (fresh key c).state (fresh key c).cache 0 0).result.settled → e ≤ settled (run (fresh key c) (inputs_of log (fresh key c))).state
    below g = let k = run_settled log (length log) 0 (fresh key c).state (fresh key c).cache 0 0 in omega arith
