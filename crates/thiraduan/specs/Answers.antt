-- What the exported calls write.
use Rattle.std.specs.Prelude.{ℕ, List, [], ◌∷◌, Bool, true, false, get_or, leb, eqb, Option, Some, None, Result, Ok, Err, replicate}
use Rattle.words.specs.Choice.{pick, both}
use Rattle.verdict.specs.Verdicts.{accepted, not_well, malformed, short}
use Rattle.verdict.specs.declared.Refusal.{Refusal}
use Rattle.entry.specs.Entries.{Reading, read_entry}
use Rattle.entry.specs.declared.Entry.{Entry}
use Rattle.entry.specs.declared.Unread.TheVariants as unread
use Rattle.key.specs.Keys.{key_bytes}
use Rattle.fields.specs.Forms.{fields_of, numbers_of, value_field, entry_from}
use Rattle.fields.specs.declared.Fields.{Fields}
use Rattle.flat.specs.Flats.{state_at, state_bytes}
use Rattle.state.specs.States.{well_state, settled}
use Rattle.state.specs.declared.State.{State}
use Rattle.rules.specs.Steps.{Step, step, Stepped}
use Rattle.rules.specs.Runs.{Run, run}
use Rattle.writer.specs.Writings.{Writing, unwritten, write_entry}

-- a yes or no as a byte
abbrev pub flag : Bool → ℕ
flag true = 1
flag false = 0

-- the bytes of an answer, zeros where it is refused
abbrev pub handed_over : ℕ → Result (List ℕ) Refusal → List ℕ
handed_over n (Ok b) = b
handed_over n (Err r) = replicate n 0

-- ---- entries

-- an entry read: verdict, the bytes used, its five numbers, its key, its value and then zeros
pub record FlatRead : Type 0 where
  pub verdict : ℕ
  pub used : ℕ
  pub numbers : List ℕ
  pub key : List ℕ
  pub value : List ℕ

abbrev pub flat_fields : ℕ → Fields → FlatRead
flat_fields m f = record { verdict = accepted; used = m; numbers = numbers_of f; key = key_bytes f.key; value = value_field f.value }

-- 3 and 2 leave numbers, key and value as they were
abbrev pub flat_read_by : List ℕ → List ℕ → List ℕ → Reading → FlatRead
flat_read_by n k x (Err unread.Short) = record { verdict = short; used = 0; numbers = n; key = k; value = x }
flat_read_by n k x (Err (unread.Malformed m)) = record { verdict = malformed; used = m; numbers = n; key = k; value = x }
flat_read_by n k x (Ok (e, m)) = flat_fields m (fields_of e)

unfoldable pub flat_read : List ℕ → List ℕ → List ℕ → List ℕ → FlatRead
flat_read log n k x = flat_read_by n k x (read_entry log)

-- 2 where the fields are no entry; else the writer's answer
abbrev pub flat_write_by : List ℕ → Option Entry → Writing
flat_write_by out None = unwritten malformed out
flat_write_by out (Some e) = write_entry e out

unfoldable pub flat_write : List ℕ → List ℕ → List ℕ → List ℕ → Writing
flat_write n k x out = flat_write_by out (entry_from n k x)

-- ---- the verifier, on a state's 129 bytes

-- the epoch that an accepted get (6) or absence (7) is settled with, by its verdict, its tag and the epoch current at it; 0 for what is no answer
unfoldable pub answer_epoch : ℕ → ℕ → ℕ → ℕ
answer_epoch v tag current = pick (eqb v accepted) (pick (eqb tag 6) current (pick (eqb tag 7) current 0)) 0

-- a step on a state's bytes: verdict, state, every byte of the cache, and what the step tells: bytes used, the answer's epoch
pub record FlatStep : Type 0 where
  pub verdict : ℕ
  pub state : List ℕ
  pub cache : List ℕ
  pub told : List ℕ

abbrev pub step_told : ℕ → ℕ → Stepped → List ℕ
step_told tag current r = r.used ∷ answer_epoch r.verdict tag current ∷ []

abbrev pub flattened : ℕ → ℕ → Step → FlatStep
flattened tag current r =
    record { verdict = r.result.verdict; state = state_bytes r.result.state; cache = r.bytes; told = step_told tag current r.result }

-- bytes that are no state: 1, and nothing changes
abbrev pub flat_by : List ℕ → List ℕ → List ℕ → List ℕ → Option State → FlatStep
flat_by log s c t None = record { verdict = not_well; state = s; cache = c; told = t }
flat_by log s c t (Some st) = flattened (get_or log 0 0) st.epoch.0 (step log st c)

unfoldable pub flat_step : List ℕ → List ℕ → List ℕ → List ℕ → FlatStep
flat_step log s c t = flat_by log s c t (state_at s)

-- a run on a state's bytes: 0 or 1, the end state, every byte of the cache, and what the run tells: settled, met, accepted, used
pub record FlatRun : Type 0 where
  pub verdict : ℕ
  pub state : List ℕ
  pub cache : List ℕ
  pub told : List ℕ

abbrev pub flattened_run : Run → FlatRun
flattened_run r =
    record {
      verdict = accepted;
      state = state_bytes r.result.state;
      cache = r.bytes;
      told = r.result.settled ∷ r.result.met ∷ r.result.accepted ∷ r.result.used ∷ [];
    }

abbrev pub flat_run_by : List ℕ → List ℕ → List ℕ → List ℕ → Option State → FlatRun
flat_run_by log s c t None = record { verdict = not_well; state = s; cache = c; told = t }
flat_run_by log s c t (Some st) = flattened_run (run log st c)

unfoldable pub flat_run : List ℕ → List ℕ → List ℕ → List ℕ → FlatRun
flat_run log s c t = flat_run_by log s c t (state_at s)

-- whether an epoch is settled: 0 or 1, and the lent byte
pub record FlatSettled : Type 0 where
  pub verdict : ℕ
  pub yes : ℕ

-- epochs count from 1
abbrev pub is_settled : State → ℕ → Bool
is_settled st e = both (leb 1 e) (leb e (settled st))

-- bytes that are no state, or one that is not well formed: 1, and nothing changes
abbrev pub settled_by : ℕ → ℕ → Option State → FlatSettled
settled_by e y None = record { verdict = not_well; yes = y }
settled_by e y (Some st) =
    pick (well_state st) (record { verdict = accepted; yes = flag (is_settled st e) }) (record { verdict = not_well; yes = y })

unfoldable pub flat_settled : List ℕ → ℕ → ℕ → FlatSettled
flat_settled s e y = settled_by e y (state_at s)
