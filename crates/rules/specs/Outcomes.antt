-- What an entry comes to: its verdict, the next state, and every byte of the cache.
use Rattle.std.specs.Prelude.{ℕ, List, Result, Ok, Err}
use Rattle.verdict.specs.Verdicts.{accepted, number}
use Rattle.verdict.specs.declared.Refusal.{Refusal}
use Rattle.state.specs.declared.State.{State}

-- what an entry comes to but for the cache: the verdict, and the state after it
pub record Done : Type 0 where
  pub verdict : ℕ
  pub state : State

pub record Outcome : Type 0 where
  pub done : Done
  pub bytes : List ℕ

abbrev pub outcome : Done → List ℕ → Outcome
outcome d c = record { done = d; bytes = c }

abbrev pub gives : ℕ → State → Done
gives n st = record { verdict = n; state = st }

-- what the code answers, as the rules tell it: 0 and the next state, or the refusal's number and the state as it was
abbrev pub done : Result State Refusal → State → Done
done (Ok next) st = gives accepted next
done (Err r) st = gives (number r) st

-- a refused entry leaves state and cache as they were
abbrev pub refuses : ℕ → State → List ℕ → Outcome
refuses n st c = outcome (gives n st) c

abbrev pub accepts : State → List ℕ → Outcome
accepts st c = outcome (gives accepted st) c
