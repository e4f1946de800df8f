use native.Mathlib.Nat.{add-sub_cancel_left}
use Rattle.slot.proofs.slot_of.Goals as goal

pub returns : goal.returns
returns c = rw add-sub_cancel_left at c.read_slot.ensures
