-- Where no entry is read, the step refuses with the number of that reason and uses its bytes.
use Rattle.std.specs.Prelude.{ℕ, ◌≡◌, List, Err}
use Rattle.std.proofs.Common.{refl}
use Rattle.entry.specs.Entries.{reading_used, reading_verdict}
use Rattle.entry.specs.declared.Unread.{Unread}
use Rattle.entry.specs.declared.Unread.TheVariants as unread
use Rattle.state.specs.declared.State.{State}
use Rattle.rules.specs.Outcomes.{refuses}
use Rattle.rules.specs.Steps.{step_read, taking}

pub step_unread : (st : State) (c : List ℕ) (u : Unread) → step_read st c (Err u) ≡ taking (reading_used (Err u)) (refuses (reading_verdict (Err u)) st c)
step_unread st c unread.Short = refl
step_unread st c (unread.Malformed n) = refl
