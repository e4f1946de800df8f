-- Demand 3 of a run over a log: the inputs that the run steps are the rests of the log, from each place that it comes to.
use Rattle.std.specs.Prelude.{ℕ, zero, suc, ◌+◌, ◌≤◌, List, [], ◌∷◌, length, drop, leb}
use Rattle.words.specs.Choice.{pick}
use Rattle.words.specs.Numbers.{Bytes}
use Rattle.hash.specs.Hashes.{set_key}
use Rattle.state.specs.declared.State.{State}
use Rattle.rules.specs.Steps.{Step, step}
use Rattle.rules.specs.Runs as runs
use Rattle.rules.specs.Runs.{halts}
use Rattle.integrity.specs.Statement.{Moment, fresh, Holds}

-- the rest at a place, and those behind it where the run goes on
abbrev pub rest_then : (ℕ → State → List ℕ → List (List ℕ)) → List ℕ → ℕ → Step → List (List ℕ)
rest_then go log at r = drop at log ∷ pick (halts r.result.verdict) [] (go (at + r.result.used) r.result.state r.bytes)

-- at most n of them, from at on
unfoldable pub rests : ℕ → List ℕ → ℕ → State → List ℕ → List (List ℕ)
rests zero log at st c = []
rests (suc n) log at st c = pick (leb (length log) at) [] (rest_then (rests n log) log at (step (drop at log) st c))

abbrev pub inputs_of : List ℕ → Moment → List (List ℕ)
inputs_of log m = rests (length log) log 0 m.state m.cache

-- the epochs up to the last one that the run returns as settled
abbrev pub RunDemand3 : List ℕ → List ℕ → List ℕ → ℕ → Type 0
RunDemand3 key c log e =
    Bytes log → e ≤ (runs.run log (fresh key c).state (fresh key c).cache).result.settled → Holds (set_key key) e (fresh key c) (inputs_of log (fresh key c))
