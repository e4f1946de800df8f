-- One step, for any log, state and cache: 28, 1, 3, 2, then the table (document 01, "Verdict numbers").
use Rattle.std.specs.Prelude.{ℕ, List, Bool, Ok, Err}
use Rattle.words.specs.Choice.{pick, both}
use Rattle.verdict.specs.Verdicts.{not_well, malformed, short, wrong_cache}
use Rattle.entry.specs.Entries.{Reading, read_entry}
use Rattle.entry.specs.declared.Entry.{Entry}
use Rattle.entry.specs.declared.Entry.TheVariants.{AddTree, AddDeferred, EvictTree, EvictDeferred, EvictTreeDeferred, Get, Absent, Put, Advance, Close}
use Rattle.entry.specs.declared.Unread.TheVariants as unread
use Rattle.cache.specs.Caches.{well_length, well_cache}
use Rattle.state.specs.States.{well_state}
use Rattle.state.specs.declared.State.{State}
use Rattle.rules.specs.Outcomes.{Done, Outcome, outcome, gives, refuses}
use Rattle.rules.specs.Adds.{add_tree, add_deferred}
use Rattle.rules.specs.Evicts.{evict_tree, evict_deferred, evict_tree_deferred}
use Rattle.rules.specs.Answers.{get, absent, put}
use Rattle.rules.specs.Epochs.{advance, close}

-- what an entry comes to
unfoldable pub entry_step : Entry → State → List ℕ → Outcome
entry_step (AddTree s p k x) st c = add_tree s p k x st c
entry_step (AddDeferred s e t k x) st c = add_deferred s e t k x st c
entry_step (EvictTree s p) st c = evict_tree s p st c
entry_step (EvictDeferred s) st c = evict_deferred s st c
entry_step (EvictTreeDeferred s p) st c = evict_tree_deferred s p st c
entry_step (Get s k x) st c = outcome (gives (get s k x c) st) c
entry_step (Absent p k) st c = outcome (gives (absent p k c) st) c
entry_step (Put s k x) st c = put s k x st c
entry_step Advance st c = outcome (advance st) c
entry_step Close st c = outcome (close st) c

-- what a step returns: the verdict, the next state, and the bytes used
pub record Stepped : Type 0 where
  pub verdict : ℕ
  pub state : State
  pub used : ℕ

-- what a step comes to: what it returns, and every byte of the cache
pub record Step : Type 0 where
  pub result : Stepped
  pub bytes : List ℕ

abbrev pub stepped : Stepped → List ℕ → Step
stepped r c = record { result = r; bytes = c }

abbrev pub used_by : ℕ → Done → Stepped
used_by n d = record { verdict = d.verdict; state = d.state; used = n }

-- the entry's whole length used, or none
abbrev pub taking : ℕ → Outcome → Step
taking n o = stepped (used_by n o.done) o.bytes

-- 3, 2, then the entry
abbrev pub step_read : State → List ℕ → Reading → Step
step_read st c (Err unread.Short) = taking 0 (refuses short st c)
step_read st c (Err (unread.Malformed n)) = taking n (refuses malformed st c)
step_read st c (Ok (e, n)) = taking n (entry_step e st c)

-- a step on a state and a cache that are well formed
unfoldable pub step_well : List ℕ → State → List ℕ → Step
step_well log st c = step_read st c (read_entry log)

-- 1: cache and state well formed
abbrev pub well_formed : State → List ℕ → Bool
well_formed st c = both (well_state st) (well_cache c)

-- one step
unfoldable pub step : List ℕ → State → List ℕ → Step
step log st c =
    pick (well_length c)
    (pick (well_formed st c) (step_well log st c) (taking 0 (refuses not_well st c)))
    (taking 0 (refuses wrong_cache st c))
