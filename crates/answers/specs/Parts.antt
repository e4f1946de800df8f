-- Entries 6, 7 and 8 begin with the same two checks, 4 and 6: either they find a record, or each of the three refuses for the same reason.
use Rattle.std.specs.Prelude.{ℕ, ◌≡◌, ◌+◌, ◌*◌, ◌≤◌, List, length}
use Rattle.verdict.specs.Verdicts.{number}
use Rattle.verdict.specs.declared.Refusal.{Refusal}
use Rattle.key.specs.declared.Key.{Key}
use Rattle.value.specs.declared.Value.{Value}
use Rattle.slot.specs.Slots.{slot_length}
use Rattle.slot.specs.declared.Slot.TheVariants.{Full}
use Rattle.state.specs.declared.State.{State}
use Rattle.records.specs.declared.Record.{Record}
use Rattle.rules.specs.Outcomes.{refuses}
use Rattle.rules.specs.Answers.{get, get_slot, absent, absent_slot, put, put_into}

-- slot s is one of the cache's, and each of the three goes by this record in it
abbrev pub IsRecordIn : ℕ → List ℕ → Record → Type 0
IsRecordIn s c r =
    ((s + 1) * slot_length ≤ length c)
    × ((k : Key) (x : Value) → get s k x c ≡ get_slot k x (Full r.origin r.key r.value))
    × ((k : Key) → absent s k c ≡ absent_slot k (Full r.origin r.key r.value))
    × ((k : Key) (x : Value) (st : State) → put s k x st c ≡ put_into s k x st c (Full r.origin r.key r.value))

-- each of the three is refused for this reason
abbrev pub IsRefusedAt : ℕ → List ℕ → Refusal → Type 0
IsRefusedAt s c e =
    ((k : Key) (x : Value) → get s k x c ≡ number e)
    × ((k : Key) → absent s k c ≡ number e)
    × ((k : Key) (x : Value) (st : State) → put s k x st c ≡ refuses (number e) st c)
