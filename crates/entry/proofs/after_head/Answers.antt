use native.Mathlib.Nat.{add-sub_cancel_left}
use Rattle.entry.proofs.after_head.Goals as goal

pub returns : goal.returns
returns c = rw add-sub_cancel_left
