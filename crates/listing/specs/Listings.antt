-- The listing of a log with four slots (document 01, "The program and its listing"): for each entry met, its number from 1, tag byte,
-- verdict, current epoch after it; the last line gives the settled epoch and bytes used.
use Rattle.std.specs.Prelude.{ℕ, zero, suc, ◌+◌, List, ◌++◌, length, get_or, drop, leb}
use Rattle.words.specs.Choice.{pick}
use Rattle.cache.specs.Caches.{opened_cache}
use Rattle.state.specs.States.{settled, fresh_state}
use Rattle.state.specs.declared.State.{State}
use Rattle.rules.specs.Steps.{Step, step}
use Rattle.rules.specs.Runs.{halts}
use Rattle.text.specs.Text.{line_text, slots_text, end_text}

-- the line of the entry at at, the n + 1st met, and what follows it
abbrev pub row_then : (ℕ → ℕ → State → List ℕ → List ℕ) → List ℕ → ℕ → ℕ → Step → List ℕ
row_then go log at n r =
    line_text (n + 1) (get_or log at 0) r.result.verdict r.result.state.epoch.0
    ++ pick (halts r.result.verdict) (end_text (settled r.result.state) at)
    (go (at + r.result.used) (n + 1) r.result.state r.bytes)

-- at most f lines from at on, and the last line
unfoldable pub rows_from : ℕ → List ℕ → ℕ → ℕ → State → List ℕ → List ℕ
rows_from zero log at n st c = end_text (settled st) at
rows_from (suc f) log at n st c =
    pick (leb (length log) at) (end_text (settled st) at) (row_then (rows_from f log) log at n (step (drop at log) st c))

-- four slots: the root's, and three behind it
unfoldable pub listing : List ℕ → List ℕ → List ℕ
listing key log = slots_text ++ rows_from (length log) log 0 0 (fresh_state key) (opened_cache 3)
