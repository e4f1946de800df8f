use Rattle.run.proofs.Laws.{Between}
use lib.ListN.{length}
use Prim.Native.Nat.{◌-◌}
use Rattle.run.proofs.run_well.Given as goal

abbrev pub invariant-loop-at : goal.invariant-loop-at
invariant-loop-at l = Between l.log l.initial.keyed.state l.initial.cache l.at l.keyed.state l.cache l.met l.accepted

abbrev pub decreases-loop-at : goal.decreases-loop-at
decreases-loop-at l = length l.log - l.at
